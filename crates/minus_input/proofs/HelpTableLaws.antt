-- Key names, and texts without repeats.
use Rattle.std.proofs.Common.{◌≡◌, ℕ, ◌++◌, ◌∷◌, [], List, map, take, length, Bool, true, false, not, ◌||◌, Bor, bytes_eq, eqb, zero, suc, arith, replicate, ◌+◌, ◌-◌, ◌<◌, ◌≤◌, get_or, string_bytes, refl, sym, subst, ap, ◌∙◌, inl, inr, codes}
use Rattle.std.specs.Fmt.{char_count, is_char_start, take_chars, padded, format_spec}
use Rattle.std.specs.List.{filter, list_any, flat_map, join_by, repeat}
use Rattle.std.proofs.lemmas.Bool.{cases_Bool, ne_eqb}
use Rattle.std.proofs.lemmas.Bool.Decides.{same_from_decides}
use Rattle.std.proofs.lemmas.Slice.Eq.{bytes_eq-Decides}
use Rattle.std.proofs.lemmas.List.Elements.{filter-append}
use Rattle.std.proofs.lemmas.List.{append_assoc, append-nil, map-append, take_more}
use Rattle.minus_term.specs.declared.event.KeyEvent.{KeyEvent}
use Rattle.minus_input.specs.declared.help_table.Entry as code
use Rattle.minus_input.specs.Names.{control, alt}
use Rattle.minus_input.specs.HelpTable.{key_name, code_name, shown, has, shows_shift, once_each, add_once, Entry, seen_entry, names_of, descriptions, joined, filled, group_line}

-- a key's name from its parts
pub key_name_from : (key : KeyEvent) (ctrl alternate upper code : List ℕ) → ctrl ≡ shown (has key control) (codes "Ctrl-") → alternate ≡ shown (has key alt) (codes "Alt-") →
    upper ≡ shown (shows_shift key) (codes "Shift-") → code ≡ code_name key.code → ctrl ++ (alternate ++ (upper ++ code)) ≡ key_name key
key_name_from key ctrl alternate upper code a b c d =
    sym (append_assoc ctrl alternate (upper ++ code)) ∙ sym (append_assoc (ctrl ++ alternate) upper code)
    ∙ ap (λ x. x ++ alternate ++ upper ++ code) a ∙ ap (λ x. shown (has key control) (codes "Ctrl-") ++ x ++ upper ++ code) b
    ∙ ap (λ x. shown (has key control) (codes "Ctrl-") ++ shown (has key alt) (codes "Alt-") ++ x ++ code) c
    ∙ ap (λ x. shown (has key control) (codes "Ctrl-") ++ shown (has key alt) (codes "Alt-") ++ shown (shows_shift key) (codes "Shift-") ++ x) d

-- whether a text stands among borrowed ones
pub any_now : (texts : List (Bor (List ℕ))) (text : List ℕ) → list_any (λ y. bytes_eq y.now text) texts ≡ list_any (λ other. bytes_eq other text) (map (λ y. y.now) texts)
any_now [] text = refl
any_now (y ∷ texts) text = ap (λ b. bytes_eq y.now text || b) (any_now texts text)

bytes_eq-sym : (x y : List ℕ) → bytes_eq x y ≡ bytes_eq y x
bytes_eq-sym x y = same_from_decides (bytes_eq x y) (bytes_eq y x) (bytes_eq-Decides x y) (λ t. sym ((bytes_eq-Decides y x).0 t), λ e. (bytes_eq-Decides y x).1 (sym e))

-- the texts but one
abbrev without : List ℕ → List (List ℕ) → List (List ℕ)
without text texts = filter (λ other. not (bytes_eq other text)) texts

abbrev stands_in : List (List ℕ) → List ℕ → Bool
stands_in texts text = list_any (λ other. bytes_eq other text) texts

-- a text that differs from another one is found as before, where that is left out
any_without : (texts : List (List ℕ)) (x y : List ℕ) → bytes_eq x y ≡ false → stands_in (without y texts) x ≡ stands_in texts x
any_without [] x y h = refl
any_without (z ∷ texts) x y h = elim (cases_Bool (bytes_eq z y)) [
  | inl t ↦
      let other : bytes_eq z x ≡ false = subst (λ w. bytes_eq w x ≡ false) (sym ((bytes_eq-Decides z y).0 t)) (bytes_eq-sym y x ∙ h) in
      rw (t, other) (any_without texts x y h)
  | inr f ↦ rw f (ap (λ b. bytes_eq z x || b) (any_without texts x y h))
]

-- a text that is added is left out again
without_added : (texts : List (List ℕ)) (y : List ℕ) → without y (add_once texts y) ≡ without y texts
without_added texts y = elim (cases_Bool (stands_in texts y)) [
  | inl t ↦ rw t refl
  | inr f ↦
      let one : without y (y ∷ []) ≡ [] = rw ((bytes_eq-Decides y y).1 refl) refl in
      rw f (filter-append (λ other. not (bytes_eq other y)) texts (y ∷ []) ∙ ap (λ l. without y texts ++ l) one ∙ append-nil (without y texts))
]

same_added : (texts : List (List ℕ)) (y : List ℕ) → y ∷ without y (add_once texts y) ≡ add_once (y ∷ without y texts) y
same_added texts y = ap (λ l. y ∷ l) (without_added texts y) ∙ (rw ((bytes_eq-Decides y y).1 refl) refl)

other_added : (texts : List (List ℕ)) (x y : List ℕ) → bytes_eq x y ≡ false → y ∷ without y (add_once texts x) ≡ add_once (y ∷ without y texts) x
other_added texts x y h =
    let h2 : bytes_eq y x ≡ false = bytes_eq-sym y x ∙ h in
    let found : stands_in (y ∷ without y texts) x ≡ stands_in texts x = rw h2 (any_without texts x y h) in
    elim (cases_Bool (stands_in texts x)) [
      | inl t ↦ let k : stands_in (y ∷ without y texts) x ≡ true = found ∙ t in rw (t, k) refl
      | inr f ↦
          let k : stands_in (y ∷ without y texts) x ≡ false = found ∙ f in
          let one : without y (x ∷ []) ≡ x ∷ [] = rw h refl in
          rw (f, k) (ap (λ l. y ∷ l) (filter-append (λ other. not (bytes_eq other y)) texts (x ∷ []) ∙ ap (λ l. without y texts ++ l) one))
    ]

-- one more text
pub once_each_more : (texts : List (List ℕ)) (x : List ℕ) → once_each (texts ++ x ∷ []) ≡ add_once (once_each texts) x
once_each_more [] x = refl
once_each_more (y ∷ texts) x =
    ap (λ l. y ∷ without y l) (once_each_more texts x)
    ∙ elim (cases_Bool (bytes_eq x y)) [
      | inl t ↦ subst (λ z. y ∷ without y (add_once (once_each texts) z) ≡ add_once (y ∷ without y (once_each texts)) z) (sym ((bytes_eq-Decides x y).0 t)) (same_added (once_each texts) y)
      | inr f ↦ other_added (once_each texts) x y f
    ]

-- a text that is there, and one that is not
pub kept_once : (items texts : List (Bor (List ℕ))) (text : List ℕ) (found : Bool) → items ≡ texts → found ≡ list_any (λ y. bytes_eq y.now text) items → found ≡ true →
    map (λ t. t.now) texts ≡ add_once (map (λ t. t.now) texts) text
kept_once items texts text found is v t =
    let k : list_any (λ other. bytes_eq other text) (map (λ y. y.now) texts) ≡ true = sym (any_now texts text) ∙ ap (λ l. list_any (λ y. bytes_eq y.now text) l) (sym is) ∙ sym v ∙ t in
    rw k refl

pub new_once : (items texts new : List (Bor (List ℕ))) (text : Bor (List ℕ)) (found : Bool) → items ≡ texts → found ≡ list_any (λ y. bytes_eq y.now text.now) items → found ≡ false →
    new ≡ texts ++ text ∷ [] → map (λ t. t.now) new ≡ add_once (map (λ t. t.now) texts) text.now
new_once items texts new text found is v f n =
    let k : list_any (λ other. bytes_eq other text.now) (map (λ y. y.now) texts) ≡ false = sym (any_now texts text.now) ∙ ap (λ l. list_any (λ y. bytes_eq y.now text.now) l) (sym is) ∙ sym v ∙ f in
    ap (map (λ t. t.now)) n ∙ map-append (λ t. t.now) texts (text ∷ []) ∙ (rw k refl)

-- one more entry
pub names_more : (entries : List Entry) (entry : Entry) (description : List ℕ) → bytes_eq entry.description description ≡ true →
    names_of (entries ++ entry ∷ []) description ≡ add_once (names_of entries description) entry.name
names_more entries entry description t =
    let one : filter (λ (e : Entry). bytes_eq e.description description) (entry ∷ []) ≡ entry ∷ [] = rw t refl in
    ap (λ l. once_each (map (λ (e : Entry). e.name) l)) (filter-append (λ (e : Entry). bytes_eq e.description description) entries (entry ∷ []) ∙ ap (λ l. filter (λ (e : Entry). bytes_eq e.description description) entries ++ l) one)
    ∙ ap once_each (map-append (λ (e : Entry). e.name) (filter (λ (e : Entry). bytes_eq e.description description) entries) (entry ∷ []))
    ∙ once_each_more (map (λ (e : Entry). e.name) (filter (λ (e : Entry). bytes_eq e.description description) entries)) entry.name

pub names_same : (entries : List Entry) (entry : Entry) (description : List ℕ) → bytes_eq entry.description description ≡ false →
    names_of (entries ++ entry ∷ []) description ≡ names_of entries description
names_same entries entry description f =
    let one : filter (λ (e : Entry). bytes_eq e.description description) (entry ∷ []) ≡ [] = rw f refl in
    ap (λ l. once_each (map (λ (e : Entry). e.name) l)) (filter-append (λ (e : Entry). bytes_eq e.description description) entries (entry ∷ []) ∙ ap (λ l. filter (λ (e : Entry). bytes_eq e.description description) entries ++ l) one
    ∙ append-nil (filter (λ (e : Entry). bytes_eq e.description description) entries))

abbrev described : List (List ℕ) → List (List ℕ)
described texts = filter (λ text. not (eqb (length text) 0)) texts

pub descriptions_more : (entries : List Entry) (entry : Entry) → eqb (length entry.description) 0 ≡ false → descriptions (entries ++ entry ∷ []) ≡ add_once (descriptions entries) entry.description
descriptions_more entries entry f =
    let one : described (entry.description ∷ []) ≡ entry.description ∷ [] = rw f refl in
    ap (λ l. once_each (described l)) (map-append (λ (e : Entry). e.description) entries (entry ∷ []))
    ∙ ap once_each (filter-append (λ text. not (eqb (length text) 0)) (map (λ (e : Entry). e.description) entries) (entry.description ∷ []) ∙ ap (λ l. described (map (λ (e : Entry). e.description) entries) ++ l) one)
    ∙ once_each_more (described (map (λ (e : Entry). e.description) entries)) entry.description

pub descriptions_same : (entries : List Entry) (entry : Entry) → eqb (length entry.description) 0 ≡ true → descriptions (entries ++ entry ∷ []) ≡ descriptions entries
descriptions_same entries entry t =
    let one : described (entry.description ∷ []) ≡ [] = rw t refl in
    ap (λ l. once_each (described l)) (map-append (λ (e : Entry). e.description) entries (entry ∷ []))
    ∙ ap once_each (filter-append (λ text. not (eqb (length text) 0)) (map (λ (e : Entry). e.description) entries) (entry.description ∷ []) ∙ ap (λ l. described (map (λ (e : Entry). e.description) entries) ++ l) one
    ∙ append-nil (described (map (λ (e : Entry). e.description) entries)))

-- one more entry is read
seen_more : (entries : List code.Entry) (i : ℕ) (entry : code.Entry) → i < length entries → entry ≡ get_or entries i entry →
    map seen_entry (take (i + 1) entries) ≡ map seen_entry (take i entries) ++ seen_entry entry ∷ []
seen_more entries i entry h e =
    ap (map seen_entry) (take_more entries i entry h) ∙ map-append seen_entry (take i entries) (get_or entries i entry ∷ [])
    ∙ ap (λ x. map seen_entry (take i entries) ++ seen_entry x ∷ []) (sym e)

pub names_step : (entries : List code.Entry) (i : ℕ) (entry : code.Entry) (description : List ℕ) (old new : List (List ℕ)) (text : List ℕ) →
    i < length entries → entry ≡ get_or entries i entry → bytes_eq entry.description.now description ≡ true →
    old ≡ names_of (map seen_entry (take i entries)) description → text ≡ string_bytes entry.name → new ≡ add_once old text →
    new ≡ names_of (map seen_entry (take (i + 1) entries)) description
names_step entries i entry description old new text h e t o name n =
    n ∙ ap (λ l. add_once l text) o ∙ ap (λ x. add_once (names_of (map seen_entry (take i entries)) description) x) name
    ∙ sym (names_more (map seen_entry (take i entries)) (seen_entry entry) description t)
    ∙ sym (ap (λ l. names_of l description) (seen_more entries i entry h e))

pub names_skip : (entries : List code.Entry) (i : ℕ) (entry : code.Entry) (description : List ℕ) (old : List (List ℕ)) →
    i < length entries → entry ≡ get_or entries i entry → bytes_eq entry.description.now description ≡ false →
    old ≡ names_of (map seen_entry (take i entries)) description →
    old ≡ names_of (map seen_entry (take (i + 1) entries)) description
names_skip entries i entry description old h e f o =
    o ∙ sym (names_same (map seen_entry (take i entries)) (seen_entry entry) description f)
    ∙ sym (ap (λ l. names_of l description) (seen_more entries i entry h e))

pub descriptions_step : (entries : List code.Entry) (i : ℕ) (entry : code.Entry) (old new : List (List ℕ)) →
    i < length entries → entry ≡ get_or entries i entry → eqb (length entry.description.now) 0 ≡ false →
    old ≡ descriptions (map seen_entry (take i entries)) → new ≡ add_once old entry.description.now →
    new ≡ descriptions (map seen_entry (take (i + 1) entries))
descriptions_step entries i entry old new h e f o n =
    n ∙ ap (λ l. add_once l entry.description.now) o
    ∙ sym (descriptions_more (map seen_entry (take i entries)) (seen_entry entry) f)
    ∙ sym (ap descriptions (seen_more entries i entry h e))

pub descriptions_skip : (entries : List code.Entry) (i : ℕ) (entry : code.Entry) (old : List (List ℕ)) →
    i < length entries → entry ≡ get_or entries i entry → eqb (length entry.description.now) 0 ≡ true →
    old ≡ descriptions (map seen_entry (take i entries)) →
    old ≡ descriptions (map seen_entry (take (i + 1) entries))
descriptions_skip entries i entry old h e t o =
    o ∙ sym (descriptions_same (map seen_entry (take i entries)) (seen_entry entry) t)
    ∙ sym (ap descriptions (seen_more entries i entry h e))

-- texts that are borrowed are joined as they are
flat_now : (sep : List ℕ) (texts : List (Bor (List ℕ))) → flat_map (λ (y : Bor (List ℕ)). sep ++ y.now) texts ≡ flat_map (λ y. sep ++ y) (map (λ y. y.now) texts)
flat_now sep [] = refl
flat_now sep (y ∷ texts) = ap (λ l. (sep ++ y.now) ++ l) (flat_now sep texts)

pub join_now : (texts : List (Bor (List ℕ))) → join_by (λ (y : Bor (List ℕ)). y.now) (codes ", ") texts ≡ joined (map (λ y. y.now) texts)
join_now [] = refl
join_now (y ∷ texts) = ap (λ l. y.now ++ l) (flat_now (codes ", ") texts)

take_all : (n : ℕ) (text : List ℕ) → length text ≤ n → take_chars n text ≡ text
unfolding take_chars
take_all n [] h = refl
take_all n (b ∷ text) h = elim (cases_Bool (is_char_start b)) [
  | inl t ↦
      let z : eqb n 0 ≡ false = ne_eqb n 0 (λ e. omega (arith, h, e)) in
      rw (t, z) (ap (λ l. b ∷ l) (take_all (n - 1) text (omega (arith, h))))
  | inr f ↦ rw f (ap (λ l. b ∷ l) (take_all n text (omega (arith, h))))
]

repeat_blank : (n : ℕ) → repeat {A = ℕ} n (32 ∷ []) ≡ replicate n 32
repeat_blank zero = refl
repeat_blank (suc n) = ap (λ l. 32 ∷ l) (repeat_blank n)

-- what a format with a width of 30 writes
pub filled_is : (text : List ℕ) → length text < 18446744073709551615 → padded (format_spec 32 1 0 30 18446744073709551615) text ≡ filled text
unfolding padded lib.Utf8.encode
filled_is text h =
    let all : take_chars 18446744073709551615 text ≡ text = take_all 18446744073709551615 text (omega (arith, h)) in
    let rest : 30 - char_count text - 0 ≡ 30 - char_count text = omega arith in
    rw (all, rest) (ap (λ l. text ++ l) (repeat_blank (30 - char_count text)))

-- the line of a group from its parts
pub group_from : (entries : List Entry) (description names written : List ℕ) → names ≡ joined (names_of entries description) → length names < 18446744073709551615 →
    written ≡ codes "  " ++ (padded (format_spec 32 1 0 30 18446744073709551615) names ++ (codes " " ++ (description ++ codes "\n"))) →
    written ≡ group_line entries description
group_from entries description names written n small e =
    let f : padded (format_spec 32 1 0 30 18446744073709551615) names ≡ filled (joined (names_of entries description)) = filled_is names small ∙ ap filled n in
    let fill = filled (joined (names_of entries description)) in
    e ∙ ap (λ x. codes "  " ++ (x ++ (codes " " ++ (description ++ codes "\n")))) f
    ∙ sym (append_assoc (codes "  ") fill (codes " " ++ (description ++ codes "\n")))
    ∙ sym (append_assoc (codes "  " ++ fill) (codes " ") (description ++ codes "\n"))
    ∙ sym (append_assoc (codes "  " ++ fill ++ codes " ") description (codes "\n"))
