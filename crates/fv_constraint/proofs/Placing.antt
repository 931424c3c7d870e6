-- The places of definitions by their names, as the code keeps them.
use Rattle.std.proofs.Common.{◌≡◌, ◌+◌, ℕ, suc, List, [], ◌∷◌, ◌++◌, map, length, Bool, true, false, cond, String, Option, Some, option_map, string_bytes, string_cmp, nat_cmp, bytes_eq, Bor, refl, sym, ap, ◌∙◌, append_assoc, arith}
use Rattle.std.specs.declared.alloc.Global.{Global}
use Rattle.std.specs.BTreeMap.{insert_entry, is_at}
use Rattle.std.specs.Cmp.Lexicographic.{slice_cmp}
use Rattle.std.specs.List.Sorted.{IsStrictlySortedBy}
use Rattle.std.specs.Map.{keys_of, lookup}
use Rattle.std.specs.Option.{option_copied, unwrap_or}
use Rattle.std.proofs.lemmas.List.{map-append}
use Rattle.fv_datum.specs.Lookup.{at_name}
use Rattle.fv_declare_definition.specs.Definitions.{Definitions}
use Rattle.fv_declare_definition.specs.DefinitionViews.{definition_entry, definition_view}
use Rattle.fv_constraint.specs.Numbered.{place_of, placed, place_entry}
use Rattle.fv_declare_definition.specs.declared.definition.Definition.{Definition}
use Rattle.fv_datum.proofs.Lookups.{option_map-copied, keyed-at_name}
use Rattle.fv_datum.proofs.Maps.{put_keyed}
use Rattle.fv_constraint.proofs.Putting.{names_of, names-ascend, put_last}

placed_names : (first : ℕ) (ds : Definitions) → names_of (placed first ds) ≡ names_of ds
placed_names first [] = refl
placed_names first (d ∷ ds) = ap (λ ns. d.0 ∷ ns) (placed_names (suc first) ds)

-- what stands at a name is its place, and nothing where it has none
place_at : (name : List ℕ) (first : ℕ) (ds : Definitions) → unwrap_or (at_name name (placed first ds)) (first + length ds) ≡ first + place_of name ds
place_at name first [] = refl
place_at name first (d ∷ ds) = go (bytes_eq name d.0) (place_at name (suc first) ds)
  where
    go : (b : Bool) → unwrap_or (at_name name (placed (suc first) ds)) (suc first + length ds) ≡ suc first + place_of name ds
        → unwrap_or (cond b (Some first) (at_name name (placed (suc first) ds))) (first + suc (length ds)) ≡ first + cond b 0 (suc (place_of name ds))
    go true h = omega arith
    go false h =
        let more : first + suc (length ds) ≡ suc first + length ds = omega arith in
        rw more (h ∙ omega arith)

-- the place that is found is the definition's, and the number of definitions where none is found
pub place_found : (ds : Definitions) (name : List ℕ) (places : List (Bor (List ℕ) × ℕ)) (found : Option (Bor ℕ))
    → option_copied found ≡ lookup (is_at (λ k. slice_cmp nat_cmp name k.now)) places → map place_entry places ≡ placed 0 ds
    → unwrap_or (option_map (λ n. n.now) found) (length ds) ≡ place_of name ds
place_found ds name places found value are =
    let all : option_map (λ n. n.now) found ≡ at_name name (placed 0 ds) =
    option_map-copied (λ (n : ℕ). n) found ∙ ap (option_map (λ (n : ℕ). n)) value ∙ keyed-at_name (λ (k : Bor (List ℕ)). k.now) (λ (n : ℕ). n) name places ∙ ap (at_name name) are in
    let count : length ds ≡ 0 + length ds = omega arith in
    let place : 0 + place_of name ds ≡ place_of name ds = omega arith in
    ap (λ o. unwrap_or o (length ds)) all ∙ ap (unwrap_or (at_name name (placed 0 ds))) count ∙ place_at name 0 ds ∙ place

-- one more definition gets its place
pub placed_more : (all it rest : List (String Global × Definition)) (places new : List (Bor (List ℕ) × ℕ)) (place : ℕ) (k : String Global) (d : Definition) (key : Bor (List ℕ))
    → IsStrictlySortedBy string_cmp (keys_of all) → it ≡ (k, d) ∷ rest → key.now ≡ string_bytes k
    → new ≡ insert_entry (λ a b. slice_cmp nat_cmp a.now b.now) places key place
    → map place_entry places ++ placed place (map definition_entry it) ≡ placed 0 (map definition_entry all)
    → map place_entry new ++ placed (place + 1) (map definition_entry rest) ≡ placed 0 (map definition_entry all)
placed_more all it rest places new place k d key sorted steps same put done =
    let whole : map place_entry places ++ (string_bytes k, place) ∷ placed (suc place) (map definition_entry rest) ≡ placed 0 (map definition_entry all) =
    ap (λ es. map place_entry places ++ placed place (map definition_entry es)) (sym steps) ∙ done in
    let names : names_of (map place_entry places) ++ string_bytes k ∷ names_of (placed (suc place) (map definition_entry rest)) ≡ names_of (map definition_entry all) =
    sym (map-append (λ (e : List ℕ × ℕ). e.0) (map place_entry places) ((string_bytes k, place) ∷ placed (suc place) (map definition_entry rest)))
    ∙ ap names_of whole ∙ placed_names 0 (map definition_entry all) in
    let ascends : IsStrictlySortedBy (slice_cmp nat_cmp) (names_of (map place_entry places) ++ string_bytes k ∷ names_of (placed (suc place) (map definition_entry rest))) =
    rw names (names-ascend definition_view all sorted) in
    let last : map place_entry new ≡ map place_entry places ++ (string_bytes k, place) ∷ [] =
    ap (map place_entry) put ∙ put_keyed (λ (t : Bor (List ℕ)). t.now) (λ (n : ℕ). n) places key place
    ∙ ap (λ n. insert_entry (slice_cmp nat_cmp) (map place_entry places) n place) same
    ∙ put_last (map place_entry places) (string_bytes k) place (names_of (placed (suc place) (map definition_entry rest))) ascends in
    let next : place + 1 ≡ suc place = omega arith in
    rw next (ap (λ es. es ++ placed (suc place) (map definition_entry rest)) last
    ∙ append_assoc (map place_entry places) ((string_bytes k, place) ∷ []) (placed (suc place) (map definition_entry rest)) ∙ whole)
