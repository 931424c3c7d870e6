-- Places, and what stands in them: a value has no misfit exactly where it is read.
use Rattle.std.proofs.Common.{◌≡◌, ℕ, List, [], ◌∷◌, Bool, true, false, ◌&&◌, if◌then◌else◌, Ordering, Less, Equal, Greater, Option, Some, None, option_map, is_some, nat_cmp, codes, refl, sym, ap, subst, ◌∙◌}
use Rattle.std.specs.Cmp.Lexicographic.{slice_cmp}
use Rattle.std.specs.List.{list_any, list_all}
use Rattle.std.specs.Option.{option_map_or}
use Rattle.std.specs.Ordering.{match_ordering}
use Rattle.std.specs.Str.{bytes_eq}
use Rattle.std.proofs.lemmas.Map.Lookups.{exact_bytes}
use Rattle.serde_json.specs.Data as json
use Rattle.serde_json.specs.Find.{get_member, as_str, as_bool}
use Rattle.fv_datum.specs.Attributes.{Attributes}
use Rattle.fv_datum.specs.Forms.{each_member, each_item, map2, map3, map4, required, optional}
use Rattle.fv_datum.specs.Lookup.{at_name}
use Rattle.fv_datum.specs.Members.{pairs, has_only}
use Rattle.fv_datum.specs.NameLists.{names_in, names_of}
use Rattle.fv_declare_definition.specs.Attributes.{attr_of}
use Rattle.fv_declare_definition.specs.Written.{message_of}
use Rattle.fv_declare_draft.specs.Cascades.{Conversion, CascadeDraft, conversion_of, cascade_of}
use Rattle.fv_declare_draft.specs.Places.{Holding, PlaceDraft, place, plain, list as a_list, optional as an_optional, a_map, plain_kinds, place_members, place_of, type_in, held_of, place_in, reference_of}
use Rattle.fv_declare_draft.specs.Uses.{UseDraft, use_of, uses_of}
use Rattle.fv_form.specs.Asked.{asked}
use Rattle.fv_form.specs.Declarations.{of_place, of_use}
use Rattle.fv_form.specs.Entries.{must, may}
use Rattle.fv_form.specs.Misfits.{Form, object, first_misfit, in_entry, in_members, under, member, of_object}
use Rattle.fv_form.specs.declared.form_name.FormName.{FormName}
use Rattle.fv_form.specs.declared.form_name.FormName.TheVariants as part
use Rattle.fv_form.proofs.Told.{none_in, mapped, map_read, map2_read, map3_read, map4_read, none1, none2, none4, leaf_told, entry_told, must_told, may_told, maybe_told, in_object, only_told, object_kept, members_kept, items_kept}
use Rattle.fv_form.proofs.Written.{is_kept, entry_at, in_entries, text_kept, flag_kept, with_kept}

-- ---- uses and cascades

pub names_kept : (j : json.Data) → is_kept part.Names j ≡ is_some (names_in j)
names_kept = items_kept asked part.Names part.Text as_str (λ j. refl) text_kept

pub convert_kept : (j : json.Data) → is_kept part.Convert j ≡ is_some (each_member conversion_of j)
convert_kept = members_kept asked part.Convert part.Text conversion_of (λ j. refl) (λ m. text_kept m.1 ∙ sym (map_read _ (as_str m.1)))

abbrev use_made : List ℕ → Attributes → List (List ℕ) → Option (List ℕ) → UseDraft
use_made name given groups message = record { constraint = name; given = given; groups = groups; message = message }

abbrev use_in : json.Data → Option UseDraft
use_in j = map4 use_made (required as_str (codes "constraint") j) (optional [] (each_member attr_of) (codes "with") j) (names_of (codes "groups") j) (message_of j)

use_right : (ms : json.Members) → none_in (in_entries part.Use of_use ms) ≡ is_some (use_in (json.object ms))
use_right ms =
    let j = json.object ms in
    let constraint : Option (List ℕ) = required as_str (codes "constraint") j in
    let given : Option Attributes = optional [] (each_member attr_of) (codes "with") j in
    let groups : Option (List (List ℕ)) = names_of (codes "groups") j in
    let message : Option (Option (List ℕ)) = message_of j in
    none4 (entry_at part.Use ms (must (codes "constraint") part.Text)) (entry_at part.Use ms (may (codes "with") part.With)) (entry_at part.Use ms (may (codes "groups") part.Names)) (entry_at part.Use ms (may (codes "message") part.Text))
    (is_some constraint) (is_some given) (is_some groups) (is_some message)
    (must_told asked part.Use (codes "constraint") part.Text as_str text_kept ms)
    (may_told asked part.Use (codes "with") part.With [] (each_member attr_of) with_kept ms)
    (may_told asked part.Use (codes "groups") part.Names [] names_in names_kept ms)
    (maybe_told asked part.Use (codes "message") part.Text as_str text_kept ms)
    ∙ sym (map4_read use_made constraint given groups message)

pub use_kept : (j : json.Data) → is_kept part.Use j ≡ is_some (use_of j)
use_kept = object_kept asked part.Use of_use (codes "constraint" ∷ codes "with" ∷ codes "groups" ∷ codes "message" ∷ []) use_in (λ j. refl) (λ ms. refl) use_right

pub uses_kept : (j : json.Data) → is_kept part.Uses j ≡ is_some (each_item use_of j)
uses_kept = items_kept asked part.Uses part.Use use_of (λ j. refl) use_kept

-- ---- what an object with a member of another name isn't

both_false : (a b : Bool) → b ≡ false → (a && b) ≡ false
both_false true b e = e
both_false false b e = refl

-- an object has other members than these where it has one of another name
pub others_out : (names : List (List ℕ)) (name : List ℕ) (ms : json.Members) (j : json.Data) → list_any (λ n. bytes_eq n name) names ≡ false → get_member name ms ≡ Some j
    → has_only names (json.object ms) ≡ false
others_out names name json.no_members j none found = cc
others_out names name (json.member k e ms) j none found = go (slice_cmp nat_cmp name k) refl found (others_out names name ms j none)
  where
    go : (o : Ordering) → slice_cmp nat_cmp name k ≡ o → match_ordering o (get_member name ms) (Some e) (get_member name ms) ≡ Some j
        → (get_member name ms ≡ Some j → list_all (λ m. list_any (λ n. bytes_eq n m.0) names) (pairs ms) ≡ false)
        → (list_any (λ n. bytes_eq n k) names && list_all (λ m. list_any (λ n. bytes_eq n m.0) names) (pairs ms)) ≡ false
    go Less is found later = both_false (list_any (λ n. bytes_eq n k) names) (list_all (λ m. list_any (λ n. bytes_eq n m.0) names) (pairs ms)) (later found)
    go Equal is found later =
        let other : list_any (λ n. bytes_eq n k) names ≡ false = subst (λ (l : List ℕ). list_any (λ n. bytes_eq n l) names ≡ false) (exact_bytes name k is) none in
        ap (λ b. b && list_all (λ m. list_any (λ n. bytes_eq n m.0) names) (pairs ms)) other
    go Greater is found later = both_false (list_any (λ n. bytes_eq n k) names) (list_all (λ m. list_any (λ n. bytes_eq n m.0) names) (pairs ms)) (later found)

-- the first of these that is asked for
abbrev pub first_asked : {X : Type 0} → Bool → Bool → Bool → Bool → Option X → Option X → Option X → Option X → Option X
first_asked a b c d o p q r = if a then o else if b then p else if c then q else if d then r else None

module _ {X : Type 0} (o p q r : Option X) where
  second_asked : (a b c d : Bool) → a ≡ false → c ≡ false → d ≡ false → is_some (first_asked a b c d o p q r) ≡ is_some (if b then p else None)
  second_asked true b c d ea ec ed = cc
  second_asked false true c d ea ec ed = refl
  second_asked false false true d ea ec ed = cc
  second_asked false false false true ea ec ed = cc
  second_asked false false false false ea ec ed = refl

  third_asked : (a b c d : Bool) → a ≡ false → b ≡ false → d ≡ false → is_some (first_asked a b c d o p q r) ≡ is_some (if c then q else None)
  third_asked true b c d ea eb ed = cc
  third_asked false true c d ea eb ed = cc
  third_asked false false true d ea eb ed = refl
  third_asked false false false true ea eb ed = cc
  third_asked false false false false ea eb ed = refl

  fourth_asked : (a b c d : Bool) → a ≡ false → b ≡ false → c ≡ false → is_some (first_asked a b c d o p q r) ≡ is_some (if d then r else None)
  fourth_asked true b c d ea eb ec = cc
  fourth_asked false true c d ea eb ec = cc
  fourth_asked false false true d ea eb ec = cc
  fourth_asked false false false d ea eb ec = refl

  only_asked : (a b c d : Bool) → is_some p ≡ false → is_some q ≡ false → is_some r ≡ false → is_some (first_asked a b c d o p q r) ≡ is_some (if a then o else None)
  only_asked true b c d ep eq er = refl
  only_asked false true c d ep eq er = ep
  only_asked false false true d ep eq er = eq
  only_asked false false false true ep eq er = er
  only_asked false false false false ep eq er = refl

-- ---- places, which call themselves

-- what is found at an entry, member by member
at_entry : {X : Type 0} (o : Ordering) (here : Bool) (found : Option X) (rest : Bool) (more : Option X) → here ≡ is_some found → rest ≡ is_some more
    → match_ordering o rest here rest ≡ is_some (match_ordering o more found more)
at_entry Less here found rest more is later = later
at_entry Equal here found rest more is later = is
at_entry Greater here found rest more is later = later

abbrev entry_none : FormName → FormName → List ℕ → json.Members → Bool
entry_none g h name ms = none_in (in_entry asked g (must name h) ms)

unfold_entry : (g h : FormName) (name k : List ℕ) (j : json.Data) (ms : json.Members)
    → entry_none g h name (json.member k j ms) ≡ match_ordering (slice_cmp nat_cmp name k) (entry_none g h name ms) (is_kept h j) (entry_none g h name ms)
unfold_entry g h name k j ms = go (slice_cmp nat_cmp name k)
  where
    go : (o : Ordering) → none_in (match_ordering o (in_entry asked g (must name h) ms) (option_map (under (member name)) (first_misfit asked h j)) (in_entry asked g (must name h) ms))
        ≡ match_ordering o (entry_none g h name ms) (is_kept h j) (entry_none g h name ms)
    go Less = refl
    go Equal = mapped (under (member name)) (first_misfit asked h j)
    go Greater = refl

-- a member that has to be there and isn't
entry_missing : (g h : FormName) (name : List ℕ) (ms : json.Members) → get_member name ms ≡ None → entry_none g h name ms ≡ false
entry_missing g h name ms none = entry_told asked g (must name h) ms ∙ ap (λ o. option_map_or (λ j. is_kept h j) o false) none

-- the reader asks for the type last
turned : (t u v c : Bool) → (t && (u && (v && c))) ≡ (u && ((v && c) && t))
turned true true true true = refl
turned true true true false = refl
turned true true false c = refl
turned true false v c = refl
turned false true true true = refl
turned false true true false = refl
turned false true false c = refl
turned false false v c = refl

-- a place by what its entries are
by_type : (ms : json.Members) → entry_none part.Place part.Held (codes "type") ms ≡ is_some (type_in ms) → is_kept part.Place (json.object ms) ≡ is_some (place_of (json.object ms))
by_type ms typed =
    let j = json.object ms in
    let uses : Option (List UseDraft) = uses_of (codes "constraints") j in
    let valid : Option Bool = optional false as_bool (codes "valid") j in
    let convert : Option (List Conversion) = optional [] (each_member conversion_of) (codes "convert") j in
    let cascade_made : Bool → List Conversion → CascadeDraft = λ valid conversions. record { valid = valid; conversions = conversions } in
    let read : Option PlaceDraft = map3 place uses (cascade_of j) (type_in ms) in
    only_told asked part.Place of_place ms (has_only place_members j) read refl (
    none4 (entry_at part.Place ms (must (codes "type") part.Held)) (entry_at part.Place ms (may (codes "constraints") part.Uses)) (entry_at part.Place ms (may (codes "valid") part.Flag)) (entry_at part.Place ms (may (codes "convert") part.Convert))
    (is_some (type_in ms)) (is_some uses) (is_some valid) (is_some convert) typed
    (may_told asked part.Place (codes "constraints") part.Uses [] (each_item use_of) uses_kept ms)
    (may_told asked part.Place (codes "valid") part.Flag false as_bool flag_kept ms)
    (may_told asked part.Place (codes "convert") part.Convert [] (each_member conversion_of) convert_kept ms)
    ∙ turned (is_some (type_in ms)) (is_some uses) (is_some valid) (is_some convert)
    ∙ ap (λ x. is_some uses && (x && is_some (type_in ms))) (sym (map2_read cascade_made valid convert))
    ∙ sym (map3_read place uses (cascade_of j) (type_in ms)))

swap : (x y : Bool) → (x && y) ≡ (y && x)
swap true true = refl
swap true false = refl
swap false true = refl
swap false false = refl

-- what a place holds, by what its entries are
module _ (ms : json.Members) where
  abbrev asks : Form FormName → Bool
  asks form = none_in (of_object part.Held form (λ h. in_members asked h ms) (λ es. in_object asked part.Held es ms))

  pick : (o : Option json.Data) (x y : Form FormName) (right : Bool) → ((j : json.Data) → o ≡ Some j → asks x ≡ right) → (o ≡ None → asks y ≡ right) → asks (if is_some o then x else y) ≡ right
  pick (Some j) x y right first second = first j refl
  pick None x y right first second = second refl

  -- an object with one entry, which has to be there
  single : (name : List ℕ) (h : FormName) (o : Option Holding) → entry_none part.Held h name ms ≡ is_some o → asks (object (must name h ∷ [])) ≡ is_some (if has_only (name ∷ []) (json.object ms) then o else None)
  single name h o each = only_told asked part.Held (must name h ∷ []) ms (has_only (name ∷ []) (json.object ms)) o refl (none1 (entry_at part.Held ms (must name h)) (is_some o) each)

  -- the place of a member that isn't there
  missing : (name : List ℕ) → entry_none part.Held part.Place name ms ≡ is_some (place_in name ms) → get_member name ms ≡ None → is_some (place_in name ms) ≡ false
  missing name each none = sym each ∙ entry_missing part.Held part.Place name ms none

  by_places : entry_none part.Held part.Place (codes "list") ms ≡ is_some (place_in (codes "list") ms) → entry_none part.Held part.Place (codes "optional") ms ≡ is_some (place_in (codes "optional") ms)
      → entry_none part.Held part.Place (codes "map") ms ≡ is_some (place_in (codes "map") ms) → is_kept part.Held (json.object ms) ≡ is_some (held_of (json.object ms))
  by_places listed optioned mapped_is =
      let j = json.object ms in
      let keys : Option (List UseDraft) = uses_of (codes "keys") j in
      let ref : Option Holding = option_map plain (reference_of j) in
      let list : Option Holding = option_map a_list (place_in (codes "list") ms) in
      let opt : Option Holding = option_map an_optional (place_in (codes "optional") ms) in
      let map_of : Option Holding = map2 a_map keys (place_in (codes "map") ms) in
      let a : Bool = has_only (codes "ref" ∷ []) j in
      let b : Bool = has_only (codes "list" ∷ []) j in
      let c : Bool = has_only (codes "optional" ∷ []) j in
      let d : Bool = has_only (codes "map" ∷ codes "keys" ∷ []) j in
      let right : Bool = is_some (first_asked a b c d ref list opt map_of) in
      let list_right : asks (object (must (codes "list") part.Place ∷ [])) ≡ is_some (if b then list else None) = single (codes "list") part.Place list (listed ∙ sym (map_read a_list (place_in (codes "list") ms))) in
      let opt_right : asks (object (must (codes "optional") part.Place ∷ [])) ≡ is_some (if c then opt else None) = single (codes "optional") part.Place opt (optioned ∙ sym (map_read an_optional (place_in (codes "optional") ms))) in
      let map_right : asks (object (must (codes "map") part.Place ∷ may (codes "keys") part.Uses ∷ [])) ≡ is_some (if d then map_of else None) =
      only_told asked part.Held (must (codes "map") part.Place ∷ may (codes "keys") part.Uses ∷ []) ms d map_of refl (
      none2 (entry_at part.Held ms (must (codes "map") part.Place)) (entry_at part.Held ms (may (codes "keys") part.Uses)) (is_some (place_in (codes "map") ms)) (is_some keys) mapped_is
      (may_told asked part.Held (codes "keys") part.Uses [] (each_item use_of) uses_kept ms)
      ∙ swap (is_some (place_in (codes "map") ms)) (is_some keys) ∙ sym (map2_read a_map keys (place_in (codes "map") ms))) in
      let ref_right : asks (object (must (codes "ref") part.Text ∷ [])) ≡ is_some (if a then ref else None) =
      single (codes "ref") part.Text ref (must_told asked part.Held (codes "ref") part.Text as_str text_kept ms ∙ sym (map_read _ (required as_str (codes "ref") j)) ∙ sym (map_read plain (reference_of j))) in
      let last : Form FormName = object (must (codes "ref") part.Text ∷ []) in
      let third : Form FormName = if is_some (get_member (codes "map") ms) then object (must (codes "map") part.Place ∷ may (codes "keys") part.Uses ∷ []) else last in
      let second : Form FormName = if is_some (get_member (codes "optional") ms) then object (must (codes "optional") part.Place ∷ []) else third in
      pick (get_member (codes "list") ms) (object (must (codes "list") part.Place ∷ [])) second right
      (λ p is. list_right ∙ sym (second_asked ref list opt map_of a b c d (others_out (codes "ref" ∷ []) (codes "list") ms p refl is) (others_out (codes "optional" ∷ []) (codes "list") ms p refl is) (others_out (codes "map" ∷ codes "keys" ∷ []) (codes "list") ms p refl is)))
      (λ no_list. pick (get_member (codes "optional") ms) (object (must (codes "optional") part.Place ∷ [])) third right
      (λ p is. opt_right ∙ sym (third_asked ref list opt map_of a b c d (others_out (codes "ref" ∷ []) (codes "optional") ms p refl is) (others_out (codes "list" ∷ []) (codes "optional") ms p refl is) (others_out (codes "map" ∷ codes "keys" ∷ []) (codes "optional") ms p refl is)))
      (λ no_opt. pick (get_member (codes "map") ms) (object (must (codes "map") part.Place ∷ may (codes "keys") part.Uses ∷ [])) last right
      (λ p is. map_right ∙ sym (fourth_asked ref list opt map_of a b c d (others_out (codes "ref" ∷ []) (codes "map") ms p refl is) (others_out (codes "list" ∷ []) (codes "map") ms p refl is) (others_out (codes "optional" ∷ []) (codes "map") ms p refl is)))
      (λ no_map. ref_right ∙ sym (only_asked ref list opt map_of a b c d (map_read a_list (place_in (codes "list") ms) ∙ missing (codes "list") listed no_list)
      (map_read an_optional (place_in (codes "optional") ms) ∙ missing (codes "optional") optioned no_opt)
      (map2_read a_map keys (place_in (codes "map") ms) ∙ both_false (is_some keys) (is_some (place_in (codes "map") ms)) (missing (codes "map") mapped_is no_map))))))

mutual
  pub place_kept : (j : json.Data) → is_kept part.Place j ≡ is_some (place_of j)
  place_kept json.null = refl
  place_kept (json.boolean b) = refl
  place_kept (json.number n) = refl
  place_kept (json.string s) = refl
  place_kept (json.array js) = refl
  place_kept (json.object ms) = by_type ms (type_kept ms)

  type_kept : (ms : json.Members) → entry_none part.Place part.Held (codes "type") ms ≡ is_some (type_in ms)
  type_kept json.no_members = refl
  type_kept (json.member k j ms) =
      unfold_entry part.Place part.Held (codes "type") k j ms
      ∙ at_entry (slice_cmp nat_cmp (codes "type") k) (is_kept part.Held j) (held_of j) (entry_none part.Place part.Held (codes "type") ms) (type_in ms) (held_kept j) (type_kept ms)

  held_kept : (j : json.Data) → is_kept part.Held j ≡ is_some (held_of j)
  held_kept json.null = refl
  held_kept (json.boolean b) = refl
  held_kept (json.number n) = refl
  held_kept (json.string s) = leaf_told part.Held (is_some (at_name s plain_kinds)) ∙ sym (map_read plain (at_name s plain_kinds))
  held_kept (json.array js) = refl
  held_kept (json.object ms) = by_places ms (inside_kept (codes "list") ms) (inside_kept (codes "optional") ms) (inside_kept (codes "map") ms)

  inside_kept : (name : List ℕ) (ms : json.Members) → entry_none part.Held part.Place name ms ≡ is_some (place_in name ms)
  inside_kept name json.no_members = refl
  inside_kept name (json.member k j ms) =
      unfold_entry part.Held part.Place name k j ms
      ∙ at_entry (slice_cmp nat_cmp name k) (is_kept part.Place j) (place_of j) (entry_none part.Held part.Place name ms) (place_in name ms) (place_kept j) (inside_kept name ms)
