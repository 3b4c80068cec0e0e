-- What a call that formats a text is asked for.
use Rattle.std.specs.Prelude.{false, ℕ, ◌-◌, ◌^◌, min, Bool, List, ◌++◌, Option, None, Some, option_map, is_none}
use Rattle.regex.specs.Patterns.{Re}
use Rattle.minus_text.specs.declared.layout.Layout.{Layout}
use Rattle.minus_text.specs.declared.format.FormatOpts.{FormatOpts}
use Rattle.minus_text.specs.FoundRows.{pattern_of}
use Rattle.minus_text.specs.Blocks.{Block}

-- The block that a text makes behind this many lines and rows. What is attached in front of it is the last of these
-- lines, which had this many of the rows: it is formed again with the text.
abbrev pub block_with : Option (List ℕ) → List ℕ → Layout → ℕ → ℕ → ℕ → Block
block_with None text layout lines rows unterminated =
    record { text = text; layout = layout; lines_before = lines; first_row = rows }
block_with (Some front) text layout lines rows unterminated =
    record { text = front ++ text; layout = layout; lines_before = lines - 1; first_row = rows - unterminated }

-- this many lines, or rows, are counted before a text at most
abbrev pub counted_before : ℕ → ℕ
counted_before n = min n (2 ^ 63 - 1)

-- the block that a call is asked for: a text behind this many lines and rows, in a layout
abbrev pub block_of : {B : Type 0} → FormatOpts B → Block
block_of opts =
    let layout : Layout = record {
      cols = opts.cols;
      wrapping = opts.line_wrapping;
      numbers = opts.line_numbers;
      match_lines = false;
      carry_style = false;
    } in
    block_with (option_map (λ a. a.now) opts.attachment) opts.text.now layout (counted_before opts.lines_count)
    (counted_before opts.formatted_lines_count) opts.prev_unterminated

-- the term that rows are searched for
abbrev pub term_of : {B : Type 0} → FormatOpts B → Option Re
term_of opts = pattern_of opts.search_term

-- whether nothing is attached
abbrev pub attaches_none : {B : Type 0} → FormatOpts B → Bool
attaches_none opts = is_none opts.attachment
