-- Each part comes after those before it.
use Rattle.std.proofs.Common.{sym, ◌∙◌}
use Rattle.std.proofs.lemmas.Bool.{false≢true}
use Rattle.minus_term.proofs.SinkLaws.{Stays-trans, Stays-rises, RisesBy-trans, AppendsFront-all}
use Rattle.minus_term.proofs.TerminalLaws.{show_cursor_is, mouse_off_is, main_screen_is, first_added, part_added, first_broken, part_broken, part_is_front, first_is_front, last_is_front}
use Rattle.minus_term.proofs.term.cleanup.Goals as goal

pub returns-in-Err-clause-broken : goal.returns-in-Err-clause-broken
returns-in-Err-clause-broken g c = first_broken _ _ _ _ show_cursor_is c.in-Err.ensures.err

pub returns-in-Err-send-clause-broken : goal.returns-in-Err-send-clause-broken
returns-in-Err-send-clause-broken g c =
    let cursor = first_added _ _ _ _ show_cursor_is c.in_default.ensures.ok in
    part_broken _ _ _ _ _ _ mouse_off_is cursor c.in-Err-send.ensures.err

pub returns-in-Err-send-2-clause-broken : goal.returns-in-Err-send-2-clause-broken
returns-in-Err-send-2-clause-broken g c =
    let cursor = first_added _ _ _ _ show_cursor_is c.in_default.ensures.ok in
    let mouse = part_added _ _ _ _ _ _ mouse_off_is cursor c.in_default-send.ensures.ok in
    part_broken _ _ _ _ _ _ main_screen_is mouse c.in-Err-send-2.ensures.err

pub returns-clause-ok : goal.returns-clause-ok
returns-clause-ok g c =
    let cursor = first_added _ _ _ _ show_cursor_is c.in_default.ensures.ok in
    let mouse = part_added _ _ _ _ _ _ mouse_off_is cursor c.in_default-send.ensures.ok in
    rw c.if-not-cleanup_screen.false (part_added _ _ _ _ _ _ main_screen_is mouse c.in_default-send-2.ensures.ok)

pub returns-in-Err-clause-tried : goal.returns-in-Err-clause-tried
returns-in-Err-clause-tried g c = first_is_front _ _ _ _ _ (first_broken _ _ _ _ show_cursor_is c.in-Err.ensures.err)

pub returns-in-Err-send-clause-tried : goal.returns-in-Err-send-clause-tried
returns-in-Err-send-clause-tried g c =
    let cursor = first_added _ _ _ _ show_cursor_is c.in_default.ensures.ok in
    part_is_front _ _ _ _ _ (part_broken _ _ _ _ _ _ mouse_off_is cursor c.in-Err-send.ensures.err)

pub returns-in-Err-send-2-clause-tried : goal.returns-in-Err-send-2-clause-tried
returns-in-Err-send-2-clause-tried g c =
    let cursor = first_added _ _ _ _ show_cursor_is c.in_default.ensures.ok in
    let mouse = part_added _ _ _ _ _ _ mouse_off_is cursor c.in_default-send.ensures.ok in
    last_is_front _ _ _ _ (part_broken _ _ _ _ _ _ main_screen_is mouse c.in-Err-send-2.ensures.err)

pub returns-clause-tried : goal.returns-clause-tried
returns-clause-tried g c =
    let cursor = first_added _ _ _ _ show_cursor_is c.in_default.ensures.ok in
    let mouse = part_added _ _ _ _ _ _ mouse_off_is cursor c.in_default-send.ensures.ok in
    AppendsFront-all _ _ _ (part_added _ _ _ _ _ _ main_screen_is mouse c.in_default-send-2.ensures.ok)

pub returns-in-Err-clause-off : goal.returns-in-Err-clause-off
returns-in-Err-clause-off g c = λ h. absurd (false≢true (sym h ∙ c.if-not-cleanup_screen.false))

pub returns-in-Err-clause-untouched : goal.returns-in-Err-clause-untouched
returns-in-Err-clause-untouched g c = λ h. absurd (false≢true (sym h ∙ c.if-not-cleanup_screen.false))

pub returns-in-Err-clause-ok : goal.returns-in-Err-clause-ok
returns-in-Err-clause-ok g c = tt

pub returns-in-Err-clause-stays : goal.returns-in-Err-clause-stays
returns-in-Err-clause-stays g c = tt

pub returns-in-Err-send-clause-off : goal.returns-in-Err-send-clause-off
returns-in-Err-send-clause-off g c = λ h. absurd (false≢true (sym h ∙ c.if-not-cleanup_screen.false))

pub returns-in-Err-send-clause-untouched : goal.returns-in-Err-send-clause-untouched
returns-in-Err-send-clause-untouched g c = λ h. absurd (false≢true (sym h ∙ c.if-not-cleanup_screen.false))

pub returns-in-Err-send-clause-ok : goal.returns-in-Err-send-clause-ok
returns-in-Err-send-clause-ok g c = tt

pub returns-in-Err-send-clause-stays : goal.returns-in-Err-send-clause-stays
returns-in-Err-send-clause-stays g c = tt

pub returns-in-Err-send-2-clause-off : goal.returns-in-Err-send-2-clause-off
returns-in-Err-send-2-clause-off g c = λ h. absurd (false≢true (sym h ∙ c.if-not-cleanup_screen.false))

pub returns-in-Err-send-2-clause-untouched : goal.returns-in-Err-send-2-clause-untouched
returns-in-Err-send-2-clause-untouched g c = λ h. absurd (false≢true (sym h ∙ c.if-not-cleanup_screen.false))

pub returns-in-Err-send-2-clause-ok : goal.returns-in-Err-send-2-clause-ok
returns-in-Err-send-2-clause-ok g c = tt

pub returns-in-Err-send-2-clause-stays : goal.returns-in-Err-send-2-clause-stays
returns-in-Err-send-2-clause-stays g c = tt

pub returns-clause-untouched : goal.returns-clause-untouched
returns-clause-untouched g c = λ h. absurd (false≢true (sym h ∙ c.if-not-cleanup_screen.false))

pub returns-in-Err-send-clause-rises : goal.returns-in-Err-send-clause-rises
returns-in-Err-send-clause-rises g c = Stays-rises _ _ _ c.in_default.ensures.stays c.in-Err-send.ensures.rises

pub returns-in-Err-send-2-clause-rises : goal.returns-in-Err-send-2-clause-rises
returns-in-Err-send-2-clause-rises g c =
    Stays-rises _ _ _ (Stays-trans _ _ _ c.in_default.ensures.stays c.in_default-send.ensures.stays) c.in-Err-send-2.ensures.rises

pub returns-clause-stays : goal.returns-clause-stays
returns-clause-stays g c =
    Stays-trans _ _ _ c.in_default.ensures.stays (Stays-trans _ _ _ c.in_default-send.ensures.stays c.in_default-send-2.ensures.stays)

pub returns-clause-settled : goal.returns-clause-settled
returns-clause-settled g c =
    let all = RisesBy-trans _ _ _ 1 2 c.in_default.ensures.settled (RisesBy-trans _ _ _ 1 1 c.in_default-send.ensures.settled c.in_default-send-2.ensures.settled) in
    rw c.if-not-cleanup_screen.false all
