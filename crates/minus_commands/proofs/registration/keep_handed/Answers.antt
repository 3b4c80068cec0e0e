-- One callback takes room for one.
use Rattle.std.proofs.Common.{sym, subst}
use Rattle.minus_commands.specs.Room.{HasRoomFor}
use Rattle.minus_commands.proofs.KeepLaws.{on_ok, one_less}
use Rattle.minus_commands.proofs.registration.keep_handed.Goals as goal

pub returns-in_err-push-in-ExitCallback-clause-enough : goal.returns-in_err-push-in-ExitCallback-clause-enough
returns-in_err-push-in-ExitCallback-clause-enough g c = λ is more room. c.in_err-push-in-ExitCallback.ensures.enough more room.exits

pub returns-in_ok-push-in-ExitCallback-clause-room : goal.returns-in_ok-push-in-ExitCallback-clause-room
returns-in_ok-push-in-ExitCallback-clause-room g c = λ more room. record { hooks = (one_less c.args.parts.now more room).hooks; exits = c.in_ok-push-in-ExitCallback.ensures.room more room.exits }

pub returns-in-Callback-clause-room : goal.returns-in-Callback-clause-room
returns-in-Callback-clause-room g c = on_ok c.add_callback.result (λ h more room. record { hooks = h more room.hooks; exits = (one_less c.args.parts.now more room).exits }) c.add_callback.ensures.room

pub returns-in-Callback-clause-enough : goal.returns-in-Callback-clause-enough
returns-in-Callback-clause-enough g c = λ is more room. c.add_callback.ensures.enough is more room.hooks

pub returns-then-is_reserved-clause-room : goal.returns-then-is_reserved-clause-room
returns-then-is_reserved-clause-room g c = λ more room. subst (λ p. HasRoomFor p more) (sym c.exit_by.ensures.rest) (record { hooks = (let fewer = one_less c.args.parts.now more room in c.remove_callback.ensures.room more fewer.hooks); exits = (one_less c.args.parts.now more room).exits })

pub returns-else-is_reserved-clause-room : goal.returns-else-is_reserved-clause-room
returns-else-is_reserved-clause-room g c = λ more room. record { hooks = (let fewer = one_less c.args.parts.now more room in c.remove_callback.ensures.room more fewer.hooks); exits = (one_less c.args.parts.now more room).exits }
