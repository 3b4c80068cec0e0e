use Rattle.std.proofs.Common.{◌≡◌, ◌<◌, ◌∙◌, sym, ap, length, arith}
use Rattle.std.proofs.lemmas.List.{take_all}
use Rattle.std.specs.Option.{option_map}
use Rattle.minus_input.specs.HelpTable.{entry_of}
use Rattle.minus_input.specs.RegisterHelp.{key_entries}
use Rattle.minus_input.specs.EventTables.{register_of}
use Rattle.minus_input.specs.Resolved.{binding_at}
use Rattle.minus_input.proofs.RegisterLaws.{length-read_each, pushed}
use Rattle.minus_input.proofs.HelpEntriesLaws.{entries_some, entries_none}
use Rattle.minus_input.proofs.register.EventTable.entries.Goals.{in-Some+else-is_err, in_default}
use Rattle.minus_input.proofs.register.EventTable.entries.Goals as goal

pub loop-place-preserved : goal.loop-place-preserved
loop-place-preserved g c =
    let many : length (register_of c.args.self.now).bindings ≡ length c.args.self.now.bindings.entries
    = length-read_each (binding_at c.args.self.now.callbacks.items) c.args.self.now.bindings.entries c.args.self.now.kept in
    let within : c.loop-place.place < length (register_of c.args.self.now).bindings = omega (arith, many, c.len-place-end.ensures.len, c.loop-place-test.true) in
    elim c.match-entry_at.branch [
      | in-Some+else-is_err w ↦
          rw w.entries-is (entries_some (register_of c.args.self.now).bindings c.loop-place.place within c.loop-place.entries.items c.loop-place.invariant _ _
          (sym (ap (option_map entry_of) w.in-Some.is) ∙ c.entry_at.ensures)
          (pushed w.push.result _ _ _ (sym w.is_err.ensures.value ∙ w.if-is_err.false) w.push.ensures.items))
      | in_default w ↦
          rw w.entries-is (entries_none (register_of c.args.self.now).bindings c.loop-place.place within c.loop-place.entries.items c.loop-place.invariant
          (sym (ap (option_map entry_of) w.in_default.is) ∙ c.entry_at.ensures))
    ]

pub returns : goal.returns
returns g c =
    let many : length (register_of c.args.self.now).bindings ≡ length c.args.self.now.bindings.entries
    = length-read_each (binding_at c.args.self.now.callbacks.items) c.args.self.now.bindings.entries c.args.self.now.kept in
    c.loop-place.invariant ∙ ap key_entries (take_all c.loop-place.place (register_of c.args.self.now).bindings (omega (arith, many, c.len-place-end.ensures.len, c.loop-place-test.false)))
