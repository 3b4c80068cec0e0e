-- A text that is written where it fits the terminal, or where there is none, and paged else.
use Rattle.std.specs.Prelude.{◌≡◌, ℕ, nat_lt, List, ◌++◌, length, map, Bool, true, false, Option, None, Some, codes}
use Rattle.std.specs.Prelude.{if◌then◌else◌, ◌⊎◌}
use Rattle.std.specs.Io.KnownBytes.{Appends}
use Rattle.std.specs.List.{flat_map}
use Rattle.minus_term.specs.Counts.{SinkSeen, AppendsFront, Stays, Rises}
use Rattle.minus_term.specs.FullRedraw.{row_ops}
use Rattle.minus_term.specs.Refusals.{at_drawing, refusal_of}
use Rattle.minus_term.specs.Written.{written_all}
use Rattle.minus_text.specs.Searched.{stored_rows_for}
use Rattle.minus_state.specs.Control.{Control, document_of, text_rows}
use Rattle.minus_state.specs.ShownRow.{ended_in}
use Rattle.minus_state.specs.declared.state.RunMode.TheVariants.{Static}
use Rattle.minus.specs.declared.init.StartErrorOf.{StartErrorOf}
use Rattle.minus_commands.specs.declared.pager.PagerOf.{PagerOf}
use Rattle.minus.specs.declared.static_pager.PagedOf.{PagedOf}
use Rattle.minus.specs.declared.static_pager.PagedOf.TheVariants as paged
use Rattle.minus_commands.specs.Registration.{Kept, kept_at_first}
use Rattle.minus_state.specs.States.{control_of}
use Rattle.minus_commands.specs.declared.parts.PartsOf.{PartsOf}
use Rattle.minus_commands.specs.Queued.{waiting_of}
use Rattle.minus_commands.specs.Reads.{kept_of, wanted_of}
use Rattle.minus.specs.SessionStarts.{IsStart, IsRefusedStart, IsOpened, IsUnopened}
use Rattle.minus.specs.Starts.{CanBegin, IsEarly, first_control}
use Rattle.minus_commands.specs.WaitingRegistrations.{kept_taken}

-- where there is no terminal, the text is written, and a newline
abbrev pub printed_text : Control → List ℕ
printed_text c = c.text ++ codes "\n"

-- the stored rows of a text, each ended where styles are carried
abbrev pub ended_rows : Control → List (List ℕ)
ended_rows c = map (ended_in (document_of c)) (stored_rows_for c.term (document_of c))

-- the bytes that put the stored rows of a text one below another, each ended where styles are carried
abbrev pub printed_rows : Control → List ℕ
printed_rows c = written_all (flat_map row_ops (ended_rows c))

-- where they are no more than those of the terminal
abbrev pub rows_that_fit : Control → Option (List ℕ)
rows_that_fit c = if nat_lt c.rows (length (text_rows c)) then None else Some (printed_rows c)

-- what is written in the place of a session, if something is: on a terminal the rows that
-- fit it, unless they are to be paged anyway
abbrev pub printed : (terminal : Bool) → Control → Kept → Option (List ℕ)
printed false c kept = Some (printed_text c)
printed true c kept = if kept.run_no_overflow then None else rows_that_fit c

-- of the commands that wait in a pager
abbrev pub printed_of : {P H E Q K : Type 0} → PagerOf P H E Q K → (cols rows : ℕ) → (terminal : Bool) → Option (List ℕ)
printed_of pager cols rows terminal =
    let waiting = map wanted_of (waiting_of pager) in
    printed terminal (first_control cols rows waiting) (kept_taken kept_at_first waiting)

-- the sink took this, and refused nothing
pub record IsWritten {S : Type 0} (seen : S → SinkSeen) (sink new : S) (wanted : Option (List ℕ)) : Type 0 where
  pub bytes : List ℕ
  pub is : wanted ≡ Some bytes
  pub written : Appends (seen sink).bytes (seen new).bytes bytes
  pub stays : Stays (seen sink).refusals (seen new).refusals

-- nothing is paged: this was written
abbrev pub IsWrittenOn : {S P H E Q K : Type 0} → (S → SinkSeen) → (sink : S) → PagedOf S P H E Q K → Option (List ℕ)
    → Type 0
IsWrittenOn seen sink (paged.Written new) wanted = IsWritten seen sink new wanted
IsWrittenOn seen sink (paged.Started session) wanted = ⊥

-- the sink refused this, of which it took a beginning; nothing is paged, and the pager is gone
pub record IsUnwritten {S P H E Q K : Type 0} (seen : S → SinkSeen) (sink : S) (e : StartErrorOf S P H E Q K)
    (wanted : Option (List ℕ)) : Type 0 where
  pub bytes : List ℕ
  pub is : wanted ≡ Some bytes
  pub cause : refusal_of e.cause ≡ at_drawing
  pub gone : e.pager ≡ None
  pub begun : AppendsFront (seen sink).bytes (seen e.sink).bytes bytes
  pub rises : Rises (seen sink).refusals (seen e.sink).refusals

-- the result of a start with these parts: the text was written where it fits or there is
-- no terminal, and otherwise a session began
abbrev pub IsShownAll : {S P H E Q K : Type 0} → (S → SinkSeen) → PartsOf P H E Q K → (sink : S) → PagedOf S P H E Q K
    → Type 0
IsShownAll seen parts sink (paged.Written new) =
    IsWritten seen sink new (printed (seen sink).terminal (control_of parts.state) (kept_of parts))
IsShownAll seen parts sink (paged.Started session) =
    (printed (seen sink).terminal (control_of parts.state) (kept_of parts) ≡ None)
    × IsOpened seen Static parts sink session

-- neither happened with these parts: the sink refused the text that was to be written, or the session that was to begin
abbrev pub IsNotShownAll : {S P H E Q K : Type 0} → (S → SinkSeen) → PartsOf P H E Q K → (sink : S)
    → StartErrorOf S P H E Q K → Type 0
IsNotShownAll seen parts sink e =
    IsUnwritten seen sink e (printed (seen sink).terminal (control_of parts.state) (kept_of parts))
    ⊎ ((printed (seen sink).terminal (control_of parts.state) (kept_of parts) ≡ None) × IsUnopened seen parts sink e)

-- the result of a text that is paged where it does not fit: it was written, or a session began
abbrev pub IsPaged :
    {S P H E Q K : Type 0} → (S → SinkSeen) → PagerOf P H E Q K → (cols rows : ℕ) → (classifier : K) → (sink : S)
    → PagedOf S P H E Q K → Type 0
IsPaged seen pager cols rows classifier sink (paged.Written new) =
    CanBegin Static cols rows (map wanted_of (waiting_of pager))
    × IsWritten seen sink new (printed_of pager cols rows (seen sink).terminal)
IsPaged seen pager cols rows classifier sink (paged.Started session) =
    (printed_of pager cols rows (seen sink).terminal ≡ None)
    × IsStart seen pager Static cols rows classifier sink session

-- neither: the sink refused what was to be written; or as a start is refused, early, or where it was to be paged
abbrev pub IsUnpaged : {S P H E Q K : Type 0} → (S → SinkSeen) → PagerOf P H E Q K → (cols rows : ℕ) → (sink : S)
    → StartErrorOf S P H E Q K → Type 0
IsUnpaged seen pager cols rows sink e =
    (CanBegin Static cols rows (map wanted_of (waiting_of pager))
    × IsUnwritten seen sink e (printed_of pager cols rows (seen sink).terminal))
    ⊎ (IsRefusedStart seen pager Static cols rows sink e
    × ((IsEarly (refusal_of e.cause) → ⊥) → printed_of pager cols rows (seen sink).terminal ≡ None))

-- a session begins with a classifier of its own at first
pub record IsFirstPaged {S P H E Q K : Type 0} (IsFirst : K → Type 0) (seen : S → SinkSeen) (pager : PagerOf P H E Q K)
    (cols rows : ℕ) (sink : S) (paged : PagedOf S P H E Q K) : Type 0 where
  pub classifier : K
  pub first : IsFirst classifier
  pub is : IsPaged seen pager cols rows classifier sink paged
