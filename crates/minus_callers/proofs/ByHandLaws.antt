-- What a command leaves that is performed manually, with all that waited for it.
use Rattle.std.proofs.Common.{◌≡◌, List, [], ◌∷◌, map, false, Option, None, Some, refl, sym, ap, subst, ◌∙◌}
use Rattle.std.specs.Prelude.{string_bytes}
use Rattle.std.specs.Option.{option_map}
use Rattle.minus_term.specs.Counts.{SinkSeen}
use Rattle.minus_term.specs.Refusals.{Refusal, for_memory, for_newline, for_size, for_mode, for_hook_id, for_free_hook_id, for_description, for_binding, for_query, after_failure, after_exit, at_setup, at_cleanup, at_drawing, for_pattern, of_no_call}
use Rattle.minus_state.specs.Classifying.{Classifies}
use Rattle.minus_state.specs.Control.{Control, Saved}
use Rattle.minus_state.specs.States.{control_of, IsFormed}
use Rattle.minus_commands.specs.declared.commands.CommandOf.{CommandOf}
use Rattle.minus_commands.specs.declared.commands.CommandOf.TheVariants.{SetData, AppendData, SetPrompt, SendMessage, ShowPrompt, SetLineNumbers, LineWrapping, SetMatchLines, SetCarryStyle, FollowOutput, UserInput, Io, SetExitStrategy, SetRunNoOverflow, AddExitCallback, AddHook, RemoveHook, IncrementalSearchCondition, SetInputClassifier}
use Rattle.minus_commands.specs.declared.commands.IoCommand.{IoCommand}
use Rattle.minus_commands.specs.declared.commands.IoCommand.TheVariants.{RedrawPrompt, RedrawDisplay, DrawAppendedText, SetUpperMark, FetchSearchQuery}
use Rattle.minus_commands.specs.declared.ev_handler.Handled.{Handled}
use Rattle.minus_commands.specs.declared.parts.PartsOf.{PartsOf}
use Rattle.minus_commands.specs.Reads.{IsRequest, as_command, io_of, io_wanted, kept_of}
use Rattle.minus_commands.specs.EvHandler.{HandlesAs, IsIoUndone, IsRequestTo, io_left, all_io_left}
use Rattle.minus_commands.specs.Registration.{Handing, kept_after, classifier_after, condition_after}
use Rattle.minus_commands.specs.Queued.{queued}
use Rattle.minus_commands.specs.Table.{effect_of, handed}
use Rattle.minus_commands.proofs.ByHandLaws.{by_hand_lem}
use Rattle.minus_callers.specs.ByHand.{left_by, left_by_all, IsIoFault, IsPerformed}

-- a command that asks for a drawing
is_io : {P H E Q K : Type 0} (command : CommandOf P H E Q K) (io : IoCommand) → io_of command ≡ Some io → command ≡ as_command io
is_io (Io command) io e = let same : command ≡ io = cc in ap as_command same
is_io (SetData text) io e = absurd (let both : None ≡ Some io = e in cc)
is_io (AppendData text) io e = absurd (let both : None ≡ Some io = e in cc)
is_io (SetPrompt text) io e = absurd (let both : None ≡ Some io = e in cc)
is_io (SendMessage text) io e = absurd (let both : None ≡ Some io = e in cc)
is_io (ShowPrompt is_shown) io e = absurd (let both : None ≡ Some io = e in cc)
is_io (SetLineNumbers numbers) io e = absurd (let both : None ≡ Some io = e in cc)
is_io (LineWrapping wrapping) io e = absurd (let both : None ≡ Some io = e in cc)
is_io (SetMatchLines match_lines) io e = absurd (let both : None ≡ Some io = e in cc)
is_io (SetCarryStyle carry_style) io e = absurd (let both : None ≡ Some io = e in cc)
is_io (FollowOutput follow) io e = absurd (let both : None ≡ Some io = e in cc)
is_io (UserInput event) io e = absurd (let both : None ≡ Some io = e in cc)
is_io (SetExitStrategy strategy) io e = absurd (let both : None ≡ Some io = e in cc)
is_io (SetRunNoOverflow on) io e = absurd (let both : None ≡ Some io = e in cc)
is_io (AddExitCallback callback) io e = absurd (let both : None ≡ Some io = e in cc)
is_io (AddHook hook id callback) io e = absurd (let both : None ≡ Some io = e in cc)
is_io (RemoveHook hook id) io e = absurd (let both : None ≡ Some io = e in cc)
is_io (IncrementalSearchCondition condition) io e = absurd (let both : None ≡ Some io = e in cc)
is_io (SetInputClassifier classifier) io e = absurd (let both : None ≡ Some io = e in cc)

-- it asks for itself, hands nothing over, is no exit, and copies nothing
asks_for_itself : (Q : Type 0) {K : Type 0} (says : Classifies K) (classifier : K) (help : Option Saved) (io : IoCommand) → IsRequest {Q = Q} {K = K} says classifier help (io_wanted io) (io_wanted io)
asks_for_itself Q says classifier help RedrawPrompt = refl
asks_for_itself Q says classifier help RedrawDisplay = refl
asks_for_itself Q says classifier help (DrawAppendedText unfinished rows style) = refl
asks_for_itself Q says classifier help (SetUpperMark mark) = refl
asks_for_itself Q says classifier help FetchSearchQuery = refl

hands_nothing : (Q K : Type 0) (io : IoCommand) → handed {Q = Q} {K = K} (io_wanted io) ≡ None
hands_nothing Q K RedrawPrompt = refl
hands_nothing Q K RedrawDisplay = refl
hands_nothing Q K (DrawAppendedText unfinished rows style) = refl
hands_nothing Q K (SetUpperMark mark) = refl
hands_nothing Q K FetchSearchQuery = refl

goes_on : (Q K : Type 0) (c : Control) (io : IoCommand) → (effect_of {Q = Q} {K = K} c (io_wanted io)).is_exit ≡ false
goes_on Q K c RedrawPrompt = refl
goes_on Q K c RedrawDisplay = refl
goes_on Q K c (DrawAppendedText unfinished rows style) = refl
goes_on Q K c (SetUpperMark mark) = refl
goes_on Q K c FetchSearchQuery = refl

copies_nothing : (Q K : Type 0) (c : Control) (io : IoCommand) → (effect_of {Q = Q} {K = K} c (io_wanted io)).copies ≡ None
copies_nothing Q K c RedrawPrompt = refl
copies_nothing Q K c RedrawDisplay = refl
copies_nothing Q K c (DrawAppendedText unfinished rows style) = refl
copies_nothing Q K c (SetUpperMark mark) = refl
copies_nothing Q K c FetchSearchQuery = refl

-- why a command that asks for a drawing is not done
pub io_fault : {S P H E Q K : Type 0} (refusal : Refusal) (sink : S → SinkSeen) (old : PartsOf P H E Q K) (before : S) (io : IoCommand) (new : PartsOf P H E Q K) (after : S) → IsIoUndone refusal sink old before io new after → IsIoFault refusal
io_fault for_memory sink old before io new after h = tt
io_fault at_drawing sink old before io new after h = tt
io_fault for_newline sink old before io new after h = h
io_fault (for_size cols rows) sink old before io new after h = h
io_fault for_mode sink old before io new after h = h
io_fault (for_hook_id hook id) sink old before io new after h = h
io_fault for_free_hook_id sink old before io new after h = h
io_fault (for_description place cause) sink old before io new after h = h
io_fault (for_binding place) sink old before io new after h = h
io_fault for_query sink old before io new after h = h
io_fault after_failure sink old before io new after h = h
io_fault after_exit sink old before io new after h = h
io_fault (at_setup cause) sink old before io new after h = h
io_fault (at_cleanup cause) sink old before io new after h = h
io_fault for_pattern sink old before io new after h = h
io_fault of_no_call sink old before io new after h = h

-- commands that ask for a drawing
all_left : (P H E Q K : Type 0) (commands : List IoCommand) (c : Control) → left_by_all {P = P} {H = H} {E = E} {Q = Q} {K = K} c (map as_command commands) ≡ all_io_left Q K c commands
all_left P H E Q K [] c = refl
all_left P H E Q K (io ∷ rest) c = all_left P H E Q K rest (io_left Q K c io)

-- what waited was done
pub all_done : {P H E Q K : Type 0} (o : Option IoCommand) (says : Classifies K) (old : PartsOf P H E Q K) (command : CommandOf P H E Q K) (handling new : PartsOf P H E Q K) (queue : List (CommandOf P H E Q K)) (handled : Handled)
    → io_of command ≡ o → HandlesAs o says old [] command handling queue handled
    → (IsFormed old.state → control_of new.state ≡ left_by_all (control_of handling.state) queue)
    → kept_of new ≡ kept_of handling → new.classifier ≡ handling.classifier → new.condition ≡ handling.condition → IsPerformed says old command new handled
all_done {P = P} {H = H} {E = E} {Q = Q} {K = K} None says old command handling new queue handled is (w, request, d) left kept classifier condition =
    let c : Control = control_of old.state in
    record {
      wanted = w;
      asked = request;
      control = λ f. left f ∙ ap (λ l. left_by_all (control_of handling.state) l) (d.queue_is f) ∙ all_left P H E Q K (queued c w) (control_of handling.state) ∙ ap (λ k. all_io_left Q K k (queued c w)) (d.control f) ∙ by_hand_lem Q K c w;
      kept = kept ∙ d.kept;
      classifier = classifier ∙ d.classifier;
      condition = condition ∙ d.condition;
      exited = d.exited;
      copied = d.copied;
    }
all_done {Q = Q} {K = K} (Some io) says old command handling new queue handled is q left kept classifier condition =
    let c : Control = control_of old.state in
    let none : handed {Q = Q} {K = K} (io_wanted io) ≡ None = hands_nothing Q K io in
    record {
      wanted = io_wanted io;
      asked = subst (λ (x : CommandOf _ _ _ _ _). IsRequestTo says old x (io_wanted io)) (sym (is_io command io is)) (asks_for_itself Q says old.classifier c.help io);
      control = λ f. left f ∙ ap (λ l. left_by_all (control_of handling.state) l) q.queue_is ∙ ap (λ (o : Option IoCommand). left_by Q K (control_of handling.state) o) is ∙ ap (λ (p : PartsOf _ _ _ _ _). io_left Q K (control_of p.state) io) q.parts;
      kept = kept ∙ ap kept_of q.parts ∙ ap (λ (h : Option (Handing Q K)). kept_after (kept_of old) h) (sym none);
      classifier = classifier ∙ ap (λ (p : PartsOf _ _ _ _ _). p.classifier) q.parts ∙ ap (λ (h : Option (Handing Q K)). classifier_after old.classifier h) (sym none);
      condition = condition ∙ ap (λ (p : PartsOf _ _ _ _ _). p.condition) q.parts ∙ ap (λ (h : Option (Handing Q K)). condition_after old.condition h) (sym none);
      exited = q.exited ∙ sym (goes_on Q K c io);
      copied = λ f. ap (λ (t : Option _). option_map string_bytes t) q.copied ∙ sym (copies_nothing Q K c io);
    }
