-- Each part comes after those before it.
use Rattle.minus_term.proofs.SinkLaws.{Stays-trans, Stays-rises, RisesBy-trans}
use Rattle.minus_term.proofs.TerminalLaws.{alternate_screen_is, mouse_on_is, hide_cursor_is, first_added, part_added, first_broken, part_broken, not_invalid, on_terminal}
use Rattle.minus_term.proofs.term.setup.Goals as goal

pub returns-in-Err-clause-broken : goal.returns-in-Err-clause-broken
returns-in-Err-clause-broken g c = first_broken _ _ _ _ alternate_screen_is c.in-Err.ensures.err

pub returns-in-Err-send-clause-broken : goal.returns-in-Err-send-clause-broken
returns-in-Err-send-clause-broken g c =
    let screen = first_added _ _ _ _ alternate_screen_is c.in_default.ensures.ok in
    part_broken _ _ _ _ _ _ mouse_on_is screen c.in-Err-send.ensures.err

pub returns-in-Err-send-2-clause-broken : goal.returns-in-Err-send-2-clause-broken
returns-in-Err-send-2-clause-broken g c =
    let screen = first_added _ _ _ _ alternate_screen_is c.in_default.ensures.ok in
    let mouse = part_added _ _ _ _ _ _ mouse_on_is screen c.in_default-send.ensures.ok in
    part_broken _ _ _ _ _ _ hide_cursor_is mouse c.in-Err-send-2.ensures.err

pub returns-clause-ok : goal.returns-clause-ok
returns-clause-ok g c =
    let screen = first_added _ _ _ _ alternate_screen_is c.in_default.ensures.ok in
    let mouse = part_added _ _ _ _ _ _ mouse_on_is screen c.in_default-send.ensures.ok in
    part_added _ _ _ _ _ _ hide_cursor_is mouse c.in_default-send-2.ensures.ok

pub returns-in-Err-clause-terminal : goal.returns-in-Err-clause-terminal
returns-in-Err-clause-terminal g c = on_terminal _ _ _ tt c.is_tty.ensures assumption

pub returns-in-Err-send-clause-terminal : goal.returns-in-Err-send-clause-terminal
returns-in-Err-send-clause-terminal g c = on_terminal _ _ _ tt c.is_tty.ensures assumption

pub returns-in-Err-send-2-clause-terminal : goal.returns-in-Err-send-2-clause-terminal
returns-in-Err-send-2-clause-terminal g c = on_terminal _ _ _ tt c.is_tty.ensures assumption

pub returns-clause-terminal : goal.returns-clause-terminal
returns-clause-terminal g c = on_terminal _ _ _ tt c.is_tty.ensures assumption

pub returns-in-Err-send-clause-rises : goal.returns-in-Err-send-clause-rises
returns-in-Err-send-clause-rises g c = λ _. Stays-rises _ _ _ c.in_default.ensures.stays c.in-Err-send.ensures.rises

pub returns-in-Err-send-2-clause-rises : goal.returns-in-Err-send-2-clause-rises
returns-in-Err-send-2-clause-rises g c =
    λ _. Stays-rises _ _ _ (Stays-trans _ _ _ c.in_default.ensures.stays c.in_default-send.ensures.stays) c.in-Err-send-2.ensures.rises

pub returns-clause-stays : goal.returns-clause-stays
returns-clause-stays g c =
    Stays-trans _ _ _ c.in_default.ensures.stays (Stays-trans _ _ _ c.in_default-send.ensures.stays c.in_default-send-2.ensures.stays)

pub returns-in-Err-clause-untouched : goal.returns-in-Err-clause-untouched
returns-in-Err-clause-untouched g c = λ e. absurd (not_invalid _ tt e)

pub returns-in-Err-send-clause-untouched : goal.returns-in-Err-send-clause-untouched
returns-in-Err-send-clause-untouched g c = λ e. absurd (not_invalid _ tt e)

pub returns-in-Err-send-2-clause-untouched : goal.returns-in-Err-send-2-clause-untouched
returns-in-Err-send-2-clause-untouched g c = λ e. absurd (not_invalid _ tt e)

pub returns-clause-untouched : goal.returns-clause-untouched
returns-clause-untouched g c = λ e. absurd (not_invalid _ tt e)

pub returns-clause-settled : goal.returns-clause-settled
returns-clause-settled g c =
    RisesBy-trans _ _ _ 1 2 c.in_default.ensures.settled (RisesBy-trans _ _ _ 1 1 c.in_default-send.ensures.settled c.in_default-send-2.ensures.settled)
