-- The lines of an export ask for what they are of, and all of them together leave what was exported.
use Rattle.std.proofs.Common.{◌≡◌, ◌⊎◌, inl, inr, ◌<◌, ◌≤◌, ℕ, suc, List, [], ◌∷◌, Bool, true, false, Option, Some, None, Ok, cond, length, nat_lt, option_and_then, option_map, unwrap_or, refl, sym, ap, subst, ◌∙◌, arith}
use Rattle.std.specs.List.{AllByRecursion}
use Rattle.std.specs.Str.{bytes_eq, is_utf8}
use Rattle.std.proofs.lemmas.Bool.{le-ltb}
use Rattle.std.proofs.lemmas.Slice.Eq.{bytes_eq-Decides}
use Rattle.serde_json.specs.Data as json
use Rattle.serde_json.specs.Data.{depth}
use Rattle.serde_json.specs.Read.{read, max_depth}
use Rattle.serde_json.specs.Written.{compact_text}
use Rattle.sqlite_rules.specs.Lists.{Has}
use Rattle.fv_bundle.specs.Bundles.{Bundled, Thing, Things}
use Rattle.fv_bundle.specs.WellTyped.{FitsType, HasRootType, IsWellTyped}
use Rattle.fv_datum.specs.Lookup.{at_name}
use Rattle.fv_engine.specs.Exports.{AreAllOf, put_json, redeclare_json}
use Rattle.fv_engine_command.specs.Commands.{alone, asks, asks_json, is_id, of_records, put, redeclare, shape}
use Rattle.fv_model.specs.Reading.{bundle_read}
use Rattle.fv_model.specs.Writing.{bundle_json}
use Rattle.fv_model.proofs.Law.{law_asked}
pub use Rattle.fv_datum.proofs.PlainJson.{IsPlain}
use Rattle.fv_bundle.specs.Types.{Declared, DeclaredFields, FieldsApart, name_at}
use Rattle.fv_bundle.specs.declared.types.TypeId.{TypeId}
use Rattle.fv_store.proofs.ReadBack.{text_back}
use Rattle.fv_store.specs.Records.{Kept, Records, no_records, with_record}

-- a line that isn't too long asks for what its JSON does
asks_line : (line : List ℕ) (d : json.Data) → length line ≤ 1048576 → is_utf8 line ≡ true → read line ≡ Some d → asks line ≡ asks_json (Some d)
unfolding asks
asks_line line d short text reads =
    let fits : nat_lt 1048576 (length line) ≡ false = le-ltb 1048576 (length line) short in
    rw (fits, text, reads) refl

put_asks : (id form : List ℕ) (j : json.Data) → is_id id ≡ true → asks_json (Some (put_json id form j)) ≡ of_records (alone (put id form j))
put_asks id form j named = ap (λ (b : Bool). of_records (unwrap_or (option_map alone (option_and_then (λ (i : List ℕ). Some (put i form j)) (cond b (Some id) None))) shape)) named

-- The line that puts a record asks for that: for its id, its form and its bundle's JSON.
pub record_asks : (id : List ℕ) (k : Kept) → is_id id ≡ true → IsPlain (bundle_json k.bundle) → depth (bundle_json k.bundle) < max_depth
    → length (compact_text (put_json id k.form (bundle_json k.bundle))) ≤ 1048576 → is_utf8 (compact_text (put_json id k.form (bundle_json k.bundle))) ≡ true
    → asks (compact_text (put_json id k.form (bundle_json k.bundle))) ≡ of_records (alone (put id k.form (bundle_json k.bundle)))
record_asks id k named plain shallow short text =
    let j = put_json id k.form (bundle_json k.bundle) in
    let whole : IsPlain j = ((plain, (tt, (tt, (tt, tt)))), ((refl, (refl, (refl, tt))), ((refl, (refl, tt)), ((refl, tt), (tt, tt))))) in
    let deep : depth j ≤ max_depth = omega arith in
    asks_line (compact_text j) j short text (text_back j whole deep) ∙ put_asks id k.form (bundle_json k.bundle) named

-- The line of the declarations asks for them.
pub declarations_ask : (text : List ℕ) → length (compact_text (redeclare_json text)) ≤ 1048576 → is_utf8 (compact_text (redeclare_json text)) ≡ true → asks (compact_text (redeclare_json text)) ≡ redeclare text
declarations_ask given short text =
    let j = redeclare_json given in
    let whole : IsPlain j = ((tt, (tt, tt)), ((refl, tt), (tt, tt))) in
    let deep : depth j ≤ max_depth = omega arith in
    asks_line (compact_text j) j short text (text_back j whole deep)

-- ---- the bundle that a line puts

-- a declared type has a number
numbered : (ts : Declared) (name : List ℕ) (fields : DeclaredFields) → at_name name ts ≡ Some fields → (n : ℕ) × (name_at ts n ≡ name)
numbered [] name fields found = cc
numbered (t ∷ ts) name fields found = at (numbered ts name fields) (bytes_eq name t.0) refl found
  where
    at : (at_name name ts ≡ Some fields → (n : ℕ) × (name_at ts n ≡ name)) → (b : Bool) → bytes_eq name t.0 ≡ b → cond b (Some t.1) (at_name name ts) ≡ Some fields → (n : ℕ) × (name_at (t ∷ ts) n ≡ name)
    at later true same is = (0, sym ((bytes_eq-Decides name t.0).0 same))
    at later false other is = let l = later is in (suc l.0, l.1)

-- the object of a name is one of all
object_at : (P : Thing → Type 0) (os : Things) (name : List ℕ) (t : Thing) → AllByRecursion (λ o. P o.1) os → at_name name os ≡ Some t → P t
object_at P [] name t all found = cc
object_at P (o ∷ os) name t all found = at (object_at P os name t all.1) (bytes_eq name o.0) found
  where
    at : (at_name name os ≡ Some t → P t) → (b : Bool) → cond b (Some o.1) (at_name name os) ≡ Some t → P t
    at later true is = let same : o.1 ≡ t = cc in subst P same all.0
    at later false is = later is

-- What is written of a bundle that fits is read as it, under the same declarations.
pub bundle_again : (types : Declared) (root : List ℕ) (b : Bundled) → FieldsApart types → IsWellTyped types b → HasRootType root b → bundle_read types (Some root) (bundle_json b) ≡ Ok b
bundle_again types root b apart typed rooted =
    let fits : FitsType types b.objects rooted.0 = object_at (FitsType types b.objects) b.objects b.root rooted.0 typed.typed rooted.1 in
    let number = numbered types rooted.0.type_name fits.fields fits.declared in
    let named : name_at types number.0 ≡ root = number.1 ∙ rooted.2 in
    let asked : TypeId = record { index = number.0 } in
    let law = law_asked types (Some asked) b apart typed (λ t is. let same : asked ≡ t = cc in subst (λ (i : TypeId). HasRootType (name_at types i.index) b) same (subst (λ (n : List ℕ). HasRootType n b) (sym named) rooted)) in
    subst (λ (n : List ℕ). bundle_read types (Some n) (bundle_json b) ≡ Ok b) named law

-- ---- all records put one after another

abbrev pub put_all : List (List ℕ × Kept) → Records → Records
put_all [] m = m
put_all (k ∷ ks) m = put_all ks (with_record k.0 k.1 m)

same_bytes : (xs : List ℕ) → bytes_eq xs xs ≡ true
same_bytes xs = (bytes_eq-Decides xs xs).1 refl

module _ (m : Records) (id : List ℕ) where
  -- the id's record is among those to be put, or it stands there already; where it has none, none stands there
  abbrev IsDue : List (List ℕ × Kept) → Option Kept → Type 0
  IsDue ks o = ((k : Kept) → m id ≡ Some k → Has ks (id, k) ⊎ (o ≡ m id)) × (m id ≡ None → o ≡ None)

  due_last : (o t : Option Kept) → m id ≡ t → IsDue [] o → o ≡ m id
  due_last o None is due = due.1 is ∙ sym is
  due_last o (Some k) is due = at (due.0 k is)
    where
      at : Has {X = List ℕ × Kept} [] (id, k) ⊎ (o ≡ m id) → o ≡ m id
      at (inl has) = absurd has
      at (inr there) = there

  due_next : (j : List ℕ × Kept) (ks : List (List ℕ × Kept)) (o : Option Kept) (b : Bool) → bytes_eq id j.0 ≡ b → m j.0 ≡ Some j.1 → IsDue (j ∷ ks) o → IsDue ks (cond b (Some j.1) o)
  due_next j ks o true same known due =
      let here : Some j.1 ≡ m id = sym known ∙ ap m (sym ((bytes_eq-Decides id j.0).0 same)) in
      ((λ k is. inr here), (λ none. here ∙ none))
  due_next j ks o false other known due = ((λ k is. at k (due.0 k is)), due.1)
    where
      at : (k : Kept) → Has (j ∷ ks) (id, k) ⊎ (o ≡ m id) → Has ks (id, k) ⊎ (o ≡ m id)
      at k (inl (inl is)) = let same : id ≡ j.0 = ap (λ (x : List ℕ × Kept). x.0) is in let e : true ≡ false = sym (ap (bytes_eq id) (sym same) ∙ same_bytes id) ∙ other in cc
      at k (inl (inr later)) = inl later
      at k (inr there) = inr there

  due_all : (ks : List (List ℕ × Kept)) (n : Records) → AllByRecursion (λ k. m k.0 ≡ Some k.1) ks → IsDue ks (n id) → put_all ks n id ≡ m id
  due_all [] n known due = due_last (n id) (m id) refl due
  due_all (j ∷ ks) n known due = due_all ks (with_record j.0 j.1 n) known.1 (due_next j ks (n id) (bytes_eq id j.0) refl known.0 due)

-- All records of a map, put one after another where there is none, are the map.
pub all_put : (m : Records) (all : List (List ℕ × Kept)) → AreAllOf m all → (id : List ℕ) → put_all all no_records id ≡ m id
all_put m all are id = due_all m id all no_records are.known ((λ k is. inl (are.complete id k is)), (λ none. refl))
