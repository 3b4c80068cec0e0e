-- What a call tells, by what was done.
use Rattle.std.proofs.Common.{◌≡◌, ◌<◌, ◌∙◌, ◌==◌, ℕ, Bool, false, length, sym, ap, refl, arith, Result, Ok, Err}
use Rattle.std.specs.Prelude.{OnOk, IfErr, if◌then◌else◌}
use Rattle.minus_term.specs.RefusalNumbers.{number_of}
use Rattle.minus_term.specs.declared.error.MinusError.{MinusError}
use Rattle.minus_c.proofs.StageLaws.{still}
use Rattle.minus_c.specs.HeldSteps.{refusing, IsDoneTold, IsRefusalTold}
use Rattle.minus_c.specs.Refused.{refusal_number}
use Rattle.minus_c.specs.Stages.{unread, is_written, IsAsBefore, IsSame}
use Rattle.minus_c.specs.declared.held.Held.{Held}
use Rattle.minus_c.specs.declared.session.Session.{Session}
use Rattle.minus_c.specs.declared.stage.Stage.{Stage}
use Rattle.minus_c.specs.declared.stage.Stage.TheVariants.{Running}
use Rattle.minus_c.specs.declared.told.Told.{Told}

not_zero : (n : ℕ) → (if n == 0 then 253 else n) ≡ 0 → ⊥
not_zero n is = grind arith

pub has_number : (e : MinusError) → refusal_number e ≡ 0 → ⊥
has_number e is = not_zero (number_of e) is

-- what was done is so of the stages of a pager, also once the bytes that wait were counted
pub done_told : {T : Type 0} (so : Stage → Stage → Type 0) → ((old : Stage) (m n : Session) → IsSame m n → so old (Running m) → so old (Running n)) → (old new : Held) (mid : Stage) (told : Told) (done : Result T MinusError)
    → IsAsBefore mid new.stage → new.answer ≡ old.answer → OnOk done (told ≡ refusing 0 (length (unread new.stage))) → IfErr done (λ e. told ≡ refusing (refusal_number e) (length (unread new.stage)))
    → OnOk done (so old.stage mid) → told.refusal ≡ 0 → IsDoneTold so false old new told
done_told so on old new mid told (Ok v) same kept tells refuses is none =
    record { kept = kept; tells = tells; done = still (so old.stage) (on old.stage) mid new.stage same is }
done_told so on old new mid told (Err e) same kept tells refuses is none =
    absurd (has_number e (sym (ap (λ (t : Told). t.refusal) refuses) ∙ none))

-- and so is what was refused
pub refused_told : {T : Type 0} (so : MinusError → Stage → Stage → Type 0) → ((e : MinusError) (old : Stage) (m n : Session) → IsSame m n → so e old (Running m) → so e old (Running n)) → (old new : Held) (mid : Stage) (told : Told)
    → (done : Result T MinusError) → IsAsBefore mid new.stage → new.answer ≡ old.answer → OnOk done (told ≡ refusing 0 (length (unread new.stage)))
    → IfErr done (λ e. told ≡ refusing (refusal_number e) (length (unread new.stage))) → IfErr done (λ e. so e old.stage mid) → 0 < told.refusal → IsRefusalTold so old new told
refused_told so on old new mid told (Ok v) same kept tells refuses is some =
    let none : told.refusal ≡ 0 = ap (λ (t : Told). t.refusal) tells in absurd (omega arith)
refused_told so on old new mid told (Err e) same kept tells refuses is some =
    record { refusal = e; kept = kept; tells = refuses; refuses = still (so e old.stage) (on e old.stage) mid new.stage same is }

pub written_still : (mid new : Stage) → IsAsBefore mid new → is_written mid ≡ is_written new
written_still mid new same = still (λ (s : Stage). is_written mid ≡ is_written s) (λ m n like is. is) mid new same refl

-- a call that went through may tell that the pager is over
pub over_told : (so : Stage → Stage → Type 0) (old new : Held) (told : Told) (over is_over : Bool) → is_over ≡ over → IsDoneTold so false old new told
    → IsDoneTold so over old new (record told { exited = is_over })
over_told so old new told over is_over e is = record {
  kept = is.kept;
  tells = ap (λ (t : Told). record t { exited = is_over }) is.tells ∙ ap (λ (b : Bool). record (refusing 0 (length (unread new.stage))) { exited = b }) e;
  done = is.done;
}
