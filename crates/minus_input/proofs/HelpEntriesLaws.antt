-- The entries of a register's help table.
use Rattle.std.proofs.Common.{◌≡◌, ℕ, ◌<◌, ◌+◌, ◌++◌, ◌∷◌, [], List, length, take, map, Option, None, Some, slice_get, get_or, Bor, refl, sym, ap, ◌∙◌}
use Rattle.std.specs.List.{filter_map}
use Rattle.std.specs.Option.{option_and_then, option_to_list}
use Rattle.std.proofs.lemmas.List.{take_more, map-append, append-nil}
use Rattle.std.proofs.lemmas.List.Elements.{filter_map-append}
use Rattle.std.proofs.lemmas.Option.{get_or_from_slice_get}
use Rattle.minus_term.specs.declared.event.KeyEvent.{KeyEvent}
use Rattle.minus_input.specs.HelpTable.{entry_of}
use Rattle.minus_input.specs.Register.{Binding}
use Rattle.minus_input.specs.HelpEntries.{entry_at}
use Rattle.minus_input.specs.RegisterHelp.{binding_entry, key_entries}
use Rattle.minus_input.specs.declared.event_form.EventWrapper.{EventWrapper}
use Rattle.minus_input.proofs.RegisterLaws.{element_at}

module _ {X Y : Type 0} (h : X → Option Y) where
  one : (x : X) (o : Option Y) → h x ≡ o → filter_map h (x ∷ []) ≡ option_to_list o
  one x None e = rw e refl
  one x (Some y) e = rw e refl

  filter_map-more : (xs : List X) (i : ℕ) → i < length xs → filter_map h (take (i + 1) xs) ≡ filter_map h (take i xs) ++ option_to_list (option_and_then h (slice_get xs i))
  filter_map-more xs i lt =
      let s = element_at xs i lt in
      let is : get_or xs i s.0 ≡ s.0 = get_or_from_slice_get xs i s.0 s.0 s.1 in
      ap (filter_map h) (take_more xs i s.0 lt) ∙ filter_map-append h (take i xs) (get_or xs i s.0 ∷ [])
      ∙ ap (λ l. filter_map h (take i xs) ++ l)
      (ap (λ x. filter_map h (x ∷ [])) is ∙ one s.0 (h s.0) refl ∙ ap (λ o. option_to_list (option_and_then h o)) (sym s.1))

module _ {A : Type 0} (bindings : List (EventWrapper × Binding A)) (i : ℕ) (lt : i < length bindings) (xs : List (Bor KeyEvent × Bor (List ℕ))) (so : map entry_of xs ≡ key_entries (take i bindings)) where
  -- one more binding: of a key
  pub entries_some : (ys : List (Bor KeyEvent × Bor (List ℕ))) (e : Bor KeyEvent × Bor (List ℕ)) → Some (entry_of e) ≡ entry_at bindings i → ys ≡ xs ++ e ∷ [] → map entry_of ys ≡ key_entries (take (i + 1) bindings)
  entries_some ys e is kept =
      ap (map entry_of) kept ∙ map-append entry_of xs (e ∷ []) ∙ ap (λ l. l ++ entry_of e ∷ []) so
      ∙ ap (λ o. key_entries (take i bindings) ++ option_to_list o) is ∙ sym (filter_map-more binding_entry bindings i lt)

  -- or of none
  pub entries_none : None ≡ entry_at bindings i → map entry_of xs ≡ key_entries (take (i + 1) bindings)
  entries_none is =
      so ∙ sym (append-nil (key_entries (take i bindings)))
      ∙ ap (λ o. key_entries (take i bindings) ++ option_to_list o) is ∙ sym (filter_map-more binding_entry bindings i lt)
