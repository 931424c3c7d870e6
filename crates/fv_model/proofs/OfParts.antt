-- Objects that are given one by one.
use Rattle.std.proofs.Common.{◌≡◌, ℕ, List, [], ◌∷◌, map, if◌then◌else◌, Bool, true, false, Some, None, Result, Ok, Err, IfOk, Ordering, Less, Equal, Greater, nat_cmp, refl, ap, ap₂, ◌∙◌}
use Rattle.std.specs.List.{AllByRecursion}
use Rattle.std.specs.Map.{keys_of}
use Rattle.std.specs.Ordering.{is_lt}
use Rattle.std.specs.Cmp.Lexicographic.{slice_cmp}
use Rattle.std.specs.List.Sorted.{IsStrictlySortedBy}
use Rattle.std.proofs.lemmas.Bool.{and_parts}
use Rattle.std.proofs.lemmas.Cmp.{nat_list_cmp_total}
use Rattle.serde_json.specs.Data as json
use Rattle.fv_datum.specs.Outcomes.{Gives}
use Rattle.fv_bundle.proofs.Made.{objects_written}
use Rattle.fv_bundle.specs.Bundles.{IsAscending, Things, Bundled}
use Rattle.fv_bundle.specs.Typing.{ascend_behind}
use Rattle.fv_bundle.specs.WellTyped.{IsWellTyped}
use Rattle.fv_bundle.specs.declared.bundle.Bundle.{Bundle}
use Rattle.fv_model.specs.Draft.{ObjectDraft, BundleDraft, part_written}
use Rattle.fv_model.specs.Reading.{object_types, objects_read}
use Rattle.fv_model.specs.Views.{bundle_view}
use Rattle.fv_model.specs.Writing.{named_written, bundle_written}
use Rattle.fv_model.specs.declared.fault.BundleFault.{BundleFault}
use Rattle.fv_model.specs.declared.fault.BundleFault.TheVariants.{Shape, Memory}
use Rattle.fv_model.proofs.Conditions.{judged}
use Rattle.fv_model.proofs.Law.{part_for, draft_for, drafted_back}
use Rattle.fv_model.proofs.Typed.{judged_well_typed}
use Rattle.fv_bundle.specs.Types.{Declared, FieldsApart}

-- ---- names in order

less : (o : Ordering) → is_lt o ≡ true → o ≡ Less
less Less e = refl
less Equal e = cc
less Greater e = cc

all_above : (k l : List ℕ) (ns : List (List ℕ)) → slice_cmp nat_cmp k l ≡ Less → AllByRecursion (λ n. slice_cmp nat_cmp l n ≡ Less) ns → AllByRecursion (λ n. slice_cmp nat_cmp k n ≡ Less) ns
all_above k l [] below all = tt
all_above k l (n ∷ ns) below all = (nat_list_cmp_total.trans k l n below all.0, all_above k l ns below all.1)

so_behind : (l : List ℕ) (ns : List (List ℕ)) → ascend_behind (Some l) ns ≡ true → IsAscending (l ∷ ns)
unfolding IsStrictlySortedBy
so_behind l [] e = (tt, tt)
so_behind l (n ∷ ns) e =
    let parts = and_parts _ _ e in
    let below : slice_cmp nat_cmp l n ≡ Less = less _ parts.0 in
    let more = so_behind n ns parts.1 in
    ((below, all_above l n ns below more.0), more)

pub ascends_so : (ns : List (List ℕ)) → ascend_behind None ns ≡ true → IsAscending ns
unfolding IsStrictlySortedBy
ascends_so [] e = tt
ascends_so (n ∷ ns) e = so_behind n ns e

told_behind : (l : List ℕ) (ns : List (List ℕ)) → AllByRecursion (λ n. slice_cmp nat_cmp l n ≡ Less) ns → IsAscending ns → ascend_behind (Some l) ns ≡ true
unfolding IsStrictlySortedBy
told_behind l [] above ordered = refl
told_behind l (n ∷ ns) above ordered = rw (above.0, told_behind n ns ordered.0 ordered.1) refl

ascends_told : (ns : List (List ℕ)) → IsAscending ns → ascend_behind None ns ≡ true
unfolding IsStrictlySortedBy
ascends_told [] ordered = refl
ascends_told (n ∷ ns) ordered = told_behind n ns ordered.0 ordered.1

-- ---- the parts

-- what is given as it is written of objects
parts_are : (ps : List ObjectDraft) (os : Things) → map part_written ps ≡ map named_written os → ps ≡ map part_for os
parts_are [] [] is = refl
parts_are [] (o ∷ os) is = cc
parts_are (p ∷ ps) [] is = cc
parts_are (p ∷ ps) (o ∷ os) is =
    let here : part_written p ≡ named_written o = cc in
    let more : map part_written ps ≡ map named_written os = cc in
    ap₂ (λ (x : ObjectDraft) xs. x ∷ xs) (ap (λ (w : List ℕ × (List ℕ × json.Members)). record { name = w.0; type_name = w.1.0; given = w.1.1 }) here) (parts_are ps os more)

parts_named : (os : Things) → keys_of (object_types (map part_for os)) ≡ keys_of os
parts_named [] = refl
parts_named (o ∷ os) = ap (λ ns. o.0 ∷ ns) (parts_named os)

-- ---- what the call answers

unless_apart : (ascend : Bool) (r : Result Bundled BundleFault) (b : Bundled) → (if ascend then r else Err Shape) ≡ Ok b → r ≡ Ok b
unless_apart true r b e = e
unless_apart false r b e = cc

pub typed_of : (r : Result Bundle BundleFault) (ts : Declared) (d : BundleDraft) → FieldsApart ts → IfOk r (λ b. IsAscending (keys_of (bundle_view b).objects)) → Gives Memory bundle_view r (objects_read ts d) → IfOk r (λ b. IsWellTyped ts (bundle_view b))
typed_of (Ok b) ts d apart ascending given =
    judged_well_typed ts None (Some d) (bundle_view b) apart ascending (objects_written b.objects.entries) (unless_apart (ascend_behind None (keys_of (object_types d.objects))) (judged ts None (Some d)) (bundle_view b) given)
typed_of (Err e) ts d apart ascending given = tt

-- objects that are given as those of a well-typed bundle are written
pub back_of : (ts : Declared) (root : List ℕ) (ps : List ObjectDraft) (b : Bundled) → FieldsApart ts → IsWellTyped ts b → (root, map part_written ps) ≡ bundle_written b → objects_read ts (record { root = root; objects = ps }) ≡ Ok b
back_of ts root ps b apart well is =
    let named : root ≡ b.root = ap (λ (w : List ℕ × List (List ℕ × (List ℕ × json.Members))). w.0) is in
    let same : ps ≡ map part_for b.objects = parts_are ps b.objects (ap (λ (w : List ℕ × List (List ℕ × (List ℕ × json.Members))). w.1) is) in
    let ascend : ascend_behind None (keys_of (object_types (map part_for b.objects))) ≡ true = ap (ascend_behind None) (parts_named b.objects) ∙ ascends_told (keys_of b.objects) well.ascending in
    ap₂ (λ (r : List ℕ) (qs : List ObjectDraft). objects_read ts (record { root = r; objects = qs })) named same
    ∙ ap (λ (a : Bool). if a then judged ts None (Some (draft_for b)) else Err Shape) ascend ∙ drafted_back ts None b apart well (λ type asked. cc)
