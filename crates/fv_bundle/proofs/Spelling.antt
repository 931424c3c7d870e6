-- How data are read, part by part.
use Rattle.std.proofs.Common.{◌≡◌, ◌≢◌, ◌<◌, ℕ, length, List, [], ◌∷◌, ◌++◌, Option, Some, None, option_map, Result, Ok, Err, IsErrAnd, refl, sym, ap, ◌∙◌, append_assoc, arith}
use Rattle.std.specs.Map.{keys_of}
use Rattle.std.specs.Option.{ok_or}
use Rattle.std.proofs.lemmas.Result.{err_from_is_err_and}
use Rattle.serde_json.specs.Data as json
use Rattle.serde_json.specs.View.{items_view}
use Rattle.serde_json.specs.declared.value.Value.{Value}
use Rattle.fv_datum.specs.Data.{Data, text, optional}
use Rattle.fv_datum.specs.Members.{each_some}
use Rattle.fv_datum.specs.Outcomes.{Gives}
use Rattle.fv_datum.specs.declared.fault.DatumFault.{DatumFault}
use Rattle.fv_datum.specs.declared.fault.DatumFault.TheVariants.{WrongKind, Memory}
use Rattle.fv_bundle.specs.Spelled.{entry_read, only_item, datum_of}
use Rattle.fv_datum.proofs.Lists.{both_some}
use Rattle.fv_bundle.specs.Types.{TypeUse, optionals}
use Rattle.fv_bundle.proofs.Orders.{keyed}

-- what an optional's JSON is read as
pub optional_spelled : (u : TypeUse) (j : json.Data) (js : json.Items) → j ≡ json.array js → datum_of (optionals u) j ≡ option_map optional (only_item (datum_of u) js)
optional_spelled u j js is_array = rw is_array refl

-- what is read of a value that is there
pub some_of : {X : Type 0} (o : Option X) (x : X) → ok_or o WrongKind ≡ Ok x → o ≡ Some x
some_of (Some y) x is = cc
some_of None x is = cc

none_of : {X : Type 0} (o : Option X) (e : DatumFault) → ok_or o WrongKind ≡ Err e → (o ≡ None) × (e ≡ WrongKind)
none_of (Some x) e is = cc
none_of None e is = (refl, cc)

refused : {X Y : Type 0} (o : Option X) (p : Option Y) (e f : DatumFault) → f ≡ e → (o ≡ None → p ≡ None) → ok_or o WrongKind ≡ Err e → ok_or p WrongKind ≡ Err f
refused o p e f same none is =
    let found = none_of o e is in
    ap (λ q. ok_or q WrongKind) (none found.0) ∙ ap (λ g. Err g) (sym (same ∙ found.1))

-- what has no value because a part has none
pub part_refused : {V X Z : Type 0} (r : Result V DatumFault) (view : V → Z) (e : DatumFault) (o : Option X) (p : Option Z) → IsErrAnd r (λ f. f ≡ e) → (e ≢ Memory → ok_or o WrongKind ≡ Err e) → (o ≡ None → p ≡ None) → Gives Memory view r (ok_or p WrongKind)
part_refused r view e o p is_err told none =
    let parts = err_from_is_err_and r is_err in
    rw parts.1 (λ other. refused o p e parts.0 parts.2 none (told (λ is. other (parts.2 ∙ is))))

-- what is made of a part that is there
pub part_taken : {X Y : Type 0} (f : X → Y) (o : Option X) (p : Option Y) (x : X) → p ≡ option_map f o → ok_or o WrongKind ≡ Ok x → ok_or p WrongKind ≡ Ok (f x)
part_taken f o p x made is = ap (λ q. ok_or q WrongKind) (made ∙ ap (option_map f) (some_of o x is))

-- ---- an optional's item

pub several : (f : json.Data → Option Data) (vs : List Value) → 1 < length vs → only_item f (items_view vs) ≡ None
several f [] many = absurd (omega arith)
several f (v ∷ []) many = absurd (omega arith)
several f (v ∷ w ∷ vs) many = refl

-- ---- one after another

regroup : (front : List (Data × Data)) (k : List ℕ) (d : Data) (o : Option (List (List ℕ × Data))) → option_map (λ more. front ++ more) (option_map keyed (option_map (λ es. (k, d) ∷ es) o)) ≡ option_map (λ more. (front ++ (text k, d) ∷ []) ++ more) (option_map keyed o)
regroup front k d None = refl
regroup front k d (Some es) = ap (λ xs. Some xs) (simp append_assoc)

-- one entry more is read
pub entries_more : (f : json.Data → Option Data) (front : List (Data × Data)) (m : List ℕ × json.Data) (ms : List (List ℕ × json.Data)) (d : Data) → f m.1 ≡ Some d
    → option_map (λ more. front ++ more) (option_map keyed (each_some (entry_read f) (m ∷ ms))) ≡ option_map (λ more. (front ++ (text m.0, d) ∷ []) ++ more) (option_map keyed (each_some (entry_read f) ms))
entries_more f front m ms d is = rw is (regroup front m.0 d (each_some (entry_read f) ms))

-- entries keep the names of the members
read_name : (f : json.Data → Option Data) (m : List ℕ × json.Data) (e : List ℕ × Data) → entry_read f m ≡ Some e → e.0 ≡ m.0
read_name f m e is = at (f m.1) is
  where
    at : (o : Option Data) → option_map (λ d. (m.0, d)) o ≡ Some e → e.0 ≡ m.0
    at (Some d) is = let same : (m.0, d) ≡ e = cc in ap (λ (x : List ℕ × Data). x.0) (sym same)
    at None is = cc

pub keys_read : (f : json.Data → Option Data) (ms : List (List ℕ × json.Data)) (es : List (List ℕ × Data)) → each_some (entry_read f) ms ≡ Some es → keys_of es ≡ keys_of ms
keys_read f [] es is = let same : [] ≡ es = cc in ap (λ (xs : List (List ℕ × Data)). keys_of xs) (sym same)
keys_read f (m ∷ ms) es is =
    let found = both_some (entry_read f m) (each_some (entry_read f) ms) es is in
    ap (λ (xs : List (List ℕ × Data)). keys_of xs) (sym found.4) ∙ ap (λ n. n ∷ keys_of found.1) (read_name f m found.0 found.2) ∙ ap (λ ns. m.0 ∷ ns) (keys_read f ms found.1 found.3)
