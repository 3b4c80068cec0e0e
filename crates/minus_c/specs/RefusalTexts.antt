-- Refusals in words.
use Rattle.std.specs.Prelude.{ℕ, ◌==◌, List, Option, None, Some, codes, if◌then◌else◌}

-- what the number of a refusal says, and 0 where there was none; nothing for any other number
abbrev pub refusal_text : ℕ → Option (List ℕ)
refusal_text n =
    if n == 0 then Some (codes "done")
    else if n == 1 then Some (codes "out of memory")
    else if n == 2 then Some (codes "a prompt or a message has a newline")
    else if n == 3 then Some (codes "the hook holds a callback under this id")
    else if n == 4 then Some (codes "no id is free for a callback")
    else if n == 5 then Some (codes "columns or rows are not from 1 to 65,535")
    else if n == 6 then Some (codes "the text describes no key and no action of the mouse")
    else if n == 7 then Some (codes "the key is bound")
    else if n == 8 then Some (codes "the query is full")
    else if n == 9 then Some (codes "the call is not for this stage of the pager")
    else if n == 10 then Some (codes "the pager has failed before")
    else if n == 11 then Some (codes "the pager is over")
    else if n == 12 then Some (codes "the terminal was not set up")
    else if n == 13 then Some (codes "the terminal was not cleaned up")
    else if n == 14 then Some (codes "a drawing failed")
    else if n == 15 then Some (codes "the pattern was not built")
    else if n == 16 then Some (codes "a text was not formatted")
    else if n == 253 then Some (codes "refused")
    else if n == 254 then Some (codes "the text is not UTF-8")
    else if n == 255 then Some (codes "a number stands for nothing")
    else None
