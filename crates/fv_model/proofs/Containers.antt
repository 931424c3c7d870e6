-- The JSON of containers, and its tokens as they are written.
use Rattle.std.proofs.Common.{◌≡◌, List, [], ◌∷◌, ◌++◌, map, true, Some, option_map, option_and_then, refl, sym, ap, ◌∙◌, append_assoc}
use Rattle.std.specs.List.{AllByRecursion}
use Rattle.std.proofs.lemmas.Bool.{and_parts, and_from}
use Rattle.json.specs.Token.{Token, begin_array, end_array}
use Rattle.json.specs.Tree.{items_tokens}
use Rattle.serde_json.specs.Data as json
use Rattle.serde_json.specs.View as seen
use Rattle.serde_json.specs.Written.{items_outline}
use Rattle.fv_datum.specs.Data as datum
use Rattle.fv_datum.specs.Data.{Data, items_of, entries_of}
use Rattle.fv_datum.specs.Written.{key_of, keys_fit, written, entries_written}
use Rattle.fv_bundle.specs.Writing.{IsWritten, datum_json}
use Rattle.fv_bundle.proofs.Back.{some_json, items_json}
use Rattle.fv_model.proofs.InOrder.{Named, members_of, rises, put_all, put_all-first}

-- ---- lists

pub list_written : (ds : List Data) → AllByRecursion IsWritten ds → written (datum.list (items_of ds)) ≡ Some (json.array (seen.items_of (map datum_json ds)))
list_written ds all = ap (option_map json.array) (items_json [] ds all)

-- the tokens of the items, to the closing bracket
abbrev pub rest_tokens : List Data → List Token
rest_tokens ds = items_tokens (items_outline (seen.items_of (map datum_json ds)))

-- ---- maps

abbrev pub entry_named : Data × Data → Named
entry_named e = (key_of e.0, datum_json e.1)

entries_put : (ms : json.Members) (es : List (Data × Data)) → AllByRecursion (λ e. IsWritten e.1) es → entries_written ms (entries_of es) ≡ Some (put_all ms (map entry_named es))
entries_put ms [] all = refl
entries_put ms (e ∷ es) all =
    ap (option_and_then (λ j. entries_written (json.put (key_of e.0) j ms) (entries_of es))) (some_json e.1 all.0) ∙ entries_put (json.put (key_of e.0) (datum_json e.1) ms) es all.1

-- keys that fit are names that rise
fit_rises : (e : Data × Data) (es : List (Data × Data)) → keys_fit (entries_of (e ∷ es)) ≡ true → rises (key_of e.0) (map entry_named es) ≡ true
fit_rises e [] h = refl
fit_rises e (f ∷ es) h =
    let parts = and_parts _ _ h in
    let below = and_parts _ _ parts.0 in
    and_from _ _ below.1 (fit_rises f es parts.1)

put_members : (es : List (Data × Data)) → keys_fit (entries_of es) ≡ true → put_all json.no_members (map entry_named es) ≡ members_of (map entry_named es)
put_members [] h = refl
put_members (e ∷ es) h = put_all-first (entry_named e) (map entry_named es) (fit_rises e es h)

pub map_written : (es : List (Data × Data)) → keys_fit (entries_of es) ≡ true → AllByRecursion (λ e. IsWritten e.1) es → written (datum.map (entries_of es)) ≡ Some (json.object (members_of (map entry_named es)))
map_written es fit all = rw fit (ap (option_map json.object) (entries_put json.no_members es all) ∙ ap (λ ms. Some (json.object ms)) (put_members es fit))

-- ---- what is written of one

pub is_written : (d : Data) (j : json.Data) → written d ≡ Some j → IsWritten d
is_written d j e = rw e refl

pub json_is : (d : Data) (j : json.Data) → written d ≡ Some j → datum_json d ≡ j
json_is d j e = rw e refl

-- ---- once none is left

-- the array is closed
pub closes_array : (old begun now new : List Token) (all rest : List Data) → begun ≡ old ++ begin_array ∷ [] → now ++ rest_tokens rest ≡ begun ++ rest_tokens all → rest ≡ [] → new ≡ now ++ end_array ∷ [] → new ≡ old ++ begin_array ∷ rest_tokens all
closes_array old begun now new all rest begins writes none ends =
    ends ∙ ap (λ ds. now ++ rest_tokens ds) (sym none) ∙ writes ∙ ap (λ ts. ts ++ rest_tokens all) begins ∙ append_assoc old (begin_array ∷ []) (rest_tokens all)
