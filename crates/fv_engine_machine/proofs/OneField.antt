-- What a call makes of a checkfield and of a checkvalue.
use Rattle.std.proofs.Common.{◌≡◌, ◌≢◌, ◌<◌, ℕ, ℤ, ◌+◌, length, cond, position, bytes_eq, not, nat_lt, arith, IsTrue, IfSome, option_map, List, [], ◌∷◌, Bool, true, false, Option, Some, None, is_some, option_and_then, Result, Ok, Err, inl, inr, refl, sym, ap, subst, ◌∙◌}
use Rattle.std.specs.List.{position_or_len}
use Rattle.std.proofs.lemmas.Bool.{lt-ltb}
use Rattle.serde_json.specs.Data as json
use Rattle.fv_engine_command.specs.Commands.{check_field, check_value}
use Rattle.fv_datum.specs.Data.{Data}
use Rattle.fv_datum.specs.Lookup.{at_name}
use Rattle.std.specs.Borrow.{Bor}
use Rattle.std.specs.Option.{option_copied}
use Rattle.std.specs.Result.{result_err}
use Rattle.fv_declare_schema.specs.Declarations.{Declarations}
use Rattle.fv_engine_machine.specs.Causes.{Handles}
use Rattle.fv_engine_machine.specs.Keeping.{Unchanged, field_in, IsValueOf, ChecksField, FieldAnswers, IsReadAt, IsMisreadAt, valued_by, misread, unjudged}
use Rattle.fv_engine_machine.specs.Machines.{Machine}
use Rattle.fv_engine_machine.specs.Refusals.{when, first_of, refusal}
use Rattle.fv_engine_machine.specs.Step.{FieldChecked, Answers}
use Rattle.fv_engine_machine.proofs.Becoming.{is_memory, stays_itself, IsOther, still, out_of_memory}
use Rattle.fv_declare_schema.specs.Groups.{numbers_of}
use Rattle.fv_declare_schema.specs.Judged.{unknown_group_in}
use Rattle.fv_bundle.specs.Bundles.{Thing, Bundled}
use Rattle.fv_bundle.specs.WellTyped.{AnyName, IsWellTyped, IsOfType}
use Rattle.fv_model.specs.Reading.{value_read}
use Rattle.fv_model.specs.declared.fault.BundleFault.{BundleFault}
use Rattle.fv_model.specs.declared.fault.BundleFault.TheVariants as fault
use Rattle.fv_registry.specs.Meanings.{Meanings}
use Rattle.fv_engine_reply.specs.Answers.{Answer, field_checked, value_checked, refused}
use Rattle.fv_engine_reply.specs.declared.answer.Refusal.{Refusal}
use Rattle.fv_engine_reply.specs.declared.answer.Refusal.TheVariants.{Bundle, NoRecord, UnknownGroup, NoSuchField, Memory}
use Rattle.fv_store.specs.Records.{Kept, Records}
use Rattle.fv_walk.specs.Properties.{field_number}
use Rattle.fv_walk.specs.FieldVisits.{HasTooManyVisitsAt, HasFewVisitsAt}
use Rattle.fv_bundle.specs.Fits.{Fits}
use Rattle.fv_bundle.specs.Types.{TypeUse, DeclaredFields, Declared}
use Rattle.fv_validate.specs.Values.{FitsField, field_use, valued}
use Rattle.fv_validate.specs.Violations.{Reported, IsListingOfField}
use Rattle.fv_validate.specs.declared.fault.ValidateFault.{ValidateFault}
use Rattle.fv_validate.specs.declared.fault.ValidateFault.TheVariants as validate

-- an object that is found in a well-typed bundle is of its type
pub found_typed : {X : Type 0} (view : X → Thing) (o : Option X) (ts : Declared) (b : Bundled) (name : List ℕ) → option_map view o ≡ at_name name b.objects → IsWellTyped ts b
    → ((ts : Declared) (b : Bundled) (name : List ℕ) (t : Thing) → IsWellTyped ts b → at_name name b.objects ≡ Some t → IsOfType ts t) → IfSome o (λ x. IsOfType ts (view x))
found_typed view None ts b name found typed law = tt
found_typed view (Some x) ts b name found typed law = law ts b name (view x) typed (sym found)

same_use : (a : Option TypeUse) (u v : TypeUse) → a ≡ Some u → a ≡ Some v → u ≡ v
same_use a u v is there = let both : Some u ≡ Some v = sym is ∙ there in cc

-- what a field holds fits it
pub use_fits : (ts : Declared) (type field : List ℕ) (d : Data) → IsValueOf ts type field d → FitsField ts type field d
use_fits ts type field d (held, is, fits) = λ u there. subst (λ (v : TypeUse). Fits AnyName v d) (same_use (field_use ts type field) held u is there) fits

-- what a field is told where it isn't validated, and where it is
module _ (means : Meanings) (ds : Declarations) (now : ℤ) (o : Thing) (field : List ℕ) (names : List (List ℕ)) (lists : List Reported → Answer) (known : unknown_group_in ds.groups names ≡ false) where
  pub field_told : (f : ValidateFault) → f ≢ validate.UnknownGroup → (f ≡ validate.NoSuchField → field_number ds.types o.type_name field ≡ None)
      → (f ≡ validate.TooManyVisits → (is_some (field_number ds.types o.type_name field) ≡ true) × HasTooManyVisitsAt ds o (numbers_of ds.groups names))
      → ChecksField means ds now (Some o) field names lists (refused (unjudged f))
  field_told validate.UnknownGroup named absent many = absurd (named refl)
  field_told validate.NoSuchField named absent many = inr (inl (known, inl (absent refl, refl)))
  field_told validate.TooManyVisits named absent many = let m = many refl in inr (inl (known, inr (m.0, inl (m.1, refl))))
  field_told validate.Memory named absent many = inr (inr refl)

  pub field_listed : (vs : List Reported) → is_some (field_number ds.types o.type_name field) ≡ true → HasFewVisitsAt ds o (numbers_of ds.groups names)
      → IsListingOfField means ds now o field (numbers_of ds.groups names) vs → ChecksField means ds now (Some o) field names lists (lists vs)
  field_listed vs there few listing = inr (inl (known, inr (there, inr (vs, few, listing, refl))))

-- data that are lent are the data
pub lent : {X Y : Type 0} (f : X → Y) (o : Option (Bor X)) (p : Option X) → option_copied o ≡ p → option_map (λ b. f b.now) o ≡ option_map f p
lent f None p e = ap (option_map f) e
lent f (Some b) p e = ap (option_map f) e

-- the answer of a check of a field is another than that a command was taken or that the store failed, as one that tells violations is
pub field_other : (means : Meanings) (ds : Declarations) (now : ℤ) (o : Thing) (field : List ℕ) (groups : List ℕ) (lists : List Reported → Answer) (answer : Answer)
    → ((vs : List Reported) → IsOther (lists vs)) → FieldChecked means ds now o field groups lists answer → IsOther answer
field_other means ds now o field groups lists answer each (inl many) = subst IsOther (sym many.1) tt
field_other means ds now o field groups lists answer each (inr told) = subst IsOther (sym told.3) (each told.0)

module _ (means : Meanings) (now : ℤ) (id object field : List ℕ) (names : List (List ℕ)) (x y : Machine Records) (stay : Unchanged x y) where
  -- the object's field, where there is the record
  abbrev field_there : Option Kept → Bool
  field_there o = is_some (option_and_then (field_in x.declared.types field) (option_and_then (λ (kept : Kept). at_name object kept.bundle.objects) o))

  -- the refusals of a checkfield by whether its id has a record, whether it names a group that isn't declared, and whether the field is there
  field_refusal : Option Kept → Bool → Bool → Option Answer
  field_refusal o unknown there = first_of (when (not (is_some o)) NoRecord ∷ when unknown UnknownGroup ∷ when (not there) NoSuchField ∷ [])

  field_refused : IsTrue x.is_open → (why : Refusal) (answer : Answer) → answer ≡ refused why → IsOther (refused why) → refusal x.declared x.records (check_field id object field names) ≡ Some (refused why)
      → Handles means now (check_field id object field names) x answer y
  field_refused live why answer is other refusing = subst (λ (a : Answer). Handles means now (check_field id object field names) x a y) (sym is)
      (still means now (check_field id object field names) x y stay (refused why) other (inl (refusing, stay.records)) (λ looks. live))

  pub field_none : IsTrue x.is_open → x.records id ≡ None → Handles means now (check_field id object field names) x (refused NoRecord) y
  unfolding field_refusal
  field_none live none = field_refused live NoRecord (refused NoRecord) refl tt (ap (λ (o : Option Kept). field_refusal o (unknown_group_in x.declared.groups names) (field_there o)) none)

  -- the refusals where the record is there
  there : (kept : Kept) (unknown : Bool) → x.records id ≡ Some kept → unknown_group_in x.declared.groups names ≡ unknown
      → refusal x.declared x.records (check_field id object field names) ≡ field_refusal (Some kept) unknown (field_there (Some kept))
  unfolding field_refusal
  there kept unknown some is =
      ap (λ (o : Option Kept). field_refusal o (unknown_group_in x.declared.groups names) (field_there o)) some ∙ ap (λ (u : Bool). field_refusal (Some kept) u (field_there (Some kept))) is

  pub field_some : IsTrue x.is_open → (kept : Kept) → x.records id ≡ Some kept → (answer : Answer)
      → ChecksField means x.declared now (at_name object kept.bundle.objects) field names field_checked answer → Handles means now (check_field id object field names) x answer y
  unfolding field_refusal
  field_some live kept some answer (inl (unknown, is)) = field_refused live UnknownGroup answer is tt (there kept true some unknown)
  field_some live kept some answer (inr (inr is)) = subst (λ (a : Answer). Handles means now (check_field id object field names) x a y) (sym is)
      (out_of_memory means now (check_field id object field names) x y stay refl)
  field_some live kept some answer (inr (inl (known, answers))) = by_object (at_name object kept.bundle.objects) refl answers
    where
      of_object : (o : Option Thing) → at_name object kept.bundle.objects ≡ o
          → refusal x.declared x.records (check_field id object field names) ≡ when (not (is_some (option_and_then (field_in x.declared.types field) o))) NoSuchField
      of_object o is = there kept false some known ∙ none_but (is_some (option_and_then (field_in x.declared.types field) (at_name object kept.bundle.objects)))
          ∙ ap (λ (p : Option Thing). when (not (is_some (option_and_then (field_in x.declared.types field) p))) NoSuchField) is
        where
          none_but : (b : Bool) → field_refusal (Some kept) false b ≡ when (not b) NoSuchField
          none_but true = refl
          none_but false = refl

      by_object : (o : Option Thing) → at_name object kept.bundle.objects ≡ o → FieldAnswers means x.declared now o field names field_checked answer → Handles means now (check_field id object field names) x answer y
      by_object None is answers = field_refused live NoSuchField answer answers tt (of_object None is)
      by_object (Some t) is (inl (lacks, told)) = field_refused live NoSuchField answer told tt (of_object (Some t) is ∙ ap (λ (u : Option ℕ). when (not (is_some u)) NoSuchField) lacks)
      by_object (Some t) is (inr (has, told)) = still means now (check_field id object field names) x y stay answer
          (field_other means x.declared now t field (numbers_of x.declared.groups names) field_checked answer (λ vs. tt) told)
          (inr (of_object (Some t) is ∙ ap (λ (b : Bool). when (not b) NoSuchField) has, (kept, some, (t, is, told), stay.records))) (λ looks. live)

-- ---- values that aren't stored

module _ (name : List ℕ) where
  before : (es : DeclaredFields) (u : TypeUse) → at_name name es ≡ Some u → position_or_len (λ e. bytes_eq name e.0) es < length es
  before [] u e = let never : None ≡ Some u = e in absurd cc
  before (x ∷ es) u e = go (bytes_eq name x.0) e (before es u)
    where
      go : (b : Bool) → cond b (Some x.1) (at_name name es) ≡ Some u → (at_name name es ≡ Some u → position_or_len (λ e. bytes_eq name e.0) es < length es)
          → cond (not b) (1 + position_or_len (λ e. bytes_eq name e.0) es) 0 < length (x ∷ es)
      go true e ih = omega arith
      go false e ih = let rest = ih e in omega (arith, rest)

  -- a field that holds something has a number
  numbered : (ts : Declared) (type : List ℕ) (u : TypeUse) → field_use ts type name ≡ Some u → field_number ts type name ≡ None → ⊥
  numbered ts type u there none = go (at_name type ts) there none
    where
      go : (o : Option DeclaredFields) → option_and_then (at_name name) o ≡ Some u → option_and_then (position (λ f. bytes_eq name f.0)) o ≡ None → ⊥
      go None t n = let never : None ≡ Some u = t in cc
      go (Some fields) t n =
          let place = position_or_len (λ (e : List ℕ × TypeUse). bytes_eq name e.0) fields in
          let less : nat_lt place (length fields) ≡ true = lt-ltb place (length fields) (before fields u t) in
          let never : Some place ≡ None = ap (λ (b : Bool). cond b (Some place) None) (sym less) ∙ n in
          cc

-- a fault other than want of memory is told as it is
misread_is : (f : BundleFault) → f ≢ fault.Memory → misread f ≡ Bundle f
misread_is fault.Shape n = refl
misread_is fault.BadName n = refl
misread_is fault.RootMissing n = refl
misread_is fault.UnknownType n = refl
misread_is fault.UnknownField n = refl
misread_is fault.WrongKind n = refl
misread_is fault.DanglingRef n = refl
misread_is fault.RefType n = refl
misread_is fault.TooLarge n = refl
misread_is fault.RootType n = refl
misread_is fault.NoObject n = refl
misread_is fault.Memory n = absurd (n refl)

module _ (means : Meanings) (now : ℤ) (type field : List ℕ) (value : json.Data) (names : List (List ℕ)) (x : Machine Records) where
  -- the refusal by a value's fault
  abbrev fault_of : Result Data BundleFault → Option Answer
  fault_of found = option_map (λ (f : BundleFault). refused (Bundle f)) (result_err found)

  -- the refusals of a checkvalue by what its field holds, and whether it names a group that isn't declared
  value_refusal : Option TypeUse → Bool → Option Answer
  value_refusal o unknown =
      first_of (option_and_then (λ (u : TypeUse). fault_of (value_read u value)) o ∷ None ∷ None ∷ when unknown UnknownGroup ∷ when (not (is_some o)) NoSuchField ∷ [])

  refusal_is : (o : Option TypeUse) (unknown : Bool) → field_use x.declared.types type field ≡ o → unknown_group_in x.declared.groups names ≡ unknown
      → refusal x.declared x.records (check_value type field value names) ≡ value_refusal o unknown
  unfolding value_refusal
  refusal_is o unknown holds is =
      ap (λ (p : Option TypeUse). value_refusal p (unknown_group_in x.declared.groups names)) holds ∙ ap (value_refusal o) is

  -- it needs no store
  answered : (answer : Answer) → IsOther answer → Answers means x.declared now (check_value type field value names) x.records answer x.records → Handles means now (check_value type field value names) x answer x
  answered answer other answers = still means now (check_value type field value names) x x (stays_itself x) answer other answers
      (λ looks. let never : false ≡ true = looks.0 in absurd cc)

  value_refused : (why : Refusal) (answer : Answer) → answer ≡ refused why → IsOther (refused why) → refusal x.declared x.records (check_value type field value names) ≡ Some (refused why)
      → Handles means now (check_value type field value names) x answer x
  value_refused why answer is other refusing = subst (λ (a : Answer). Handles means now (check_value type field value names) x a x) (sym is) (answered (refused why) other (inl (refusing, refl)))

  forgets : (answer : Answer) → answer ≡ refused Memory → Handles means now (check_value type field value names) x answer x
  forgets answer is = subst (λ (a : Answer). Handles means now (check_value type field value names) x a x) (sym is)
      (out_of_memory means now (check_value type field value names) x x (stays_itself x) refl)

  -- the refusals where the value is read or has a fault
  read_refusal : Result Data BundleFault → Bool → Option Answer
  read_refusal found unknown = first_of (fault_of found ∷ None ∷ None ∷ when unknown UnknownGroup ∷ None ∷ [])

  refusal_by : (held : TypeUse) (found : Result Data BundleFault) (unknown : Bool) → field_use x.declared.types type field ≡ Some held → value_read held value ≡ found
      → unknown_group_in x.declared.groups names ≡ unknown → refusal x.declared x.records (check_value type field value names) ≡ read_refusal found unknown
  unfolding value_refusal read_refusal
  refusal_by held found unknown holds read is = refusal_is (Some held) unknown holds is ∙ ap (λ (r : Result Data BundleFault). read_refusal r unknown) read

  pub value_misread : (why : BundleFault) → IsMisreadAt x.declared.types type field value why → Handles means now (check_value type field value names) x (refused (misread why)) x
  unfolding read_refusal
  value_misread why at = elim (is_memory why) [
    | inl e ↦ subst (λ (g : BundleFault). Handles means now (check_value type field value names) x (refused (misread g)) x) (sym e) (forgets (refused Memory) refl)
    | inr n ↦ value_refused (Bundle why) (refused (misread why)) (ap refused (misread_is why n)) tt (refusal_by at.0 (Err why) (unknown_group_in x.declared.groups names) at.1 (at.2 n) refl)
  ]

  pub value_done : (o : Option Data) → IsReadAt x.declared.types type field value o → (answer : Answer)
      → ChecksField means x.declared now (valued_by x.declared.types type field o) field names value_checked answer → Handles means now (check_value type field value names) x answer x
  unfolding value_refusal read_refusal
  value_done None at answer (inl (unknown, is)) = value_refused UnknownGroup answer is tt (refusal_is None true at unknown)
  value_done None at answer (inr (inl (known, is))) = value_refused NoSuchField answer is tt (refusal_is None false at known)
  value_done None at answer (inr (inr is)) = forgets answer is
  value_done (Some d) at answer (inl (unknown, is)) = value_refused UnknownGroup answer is tt (refusal_by at.0 (Ok d) true at.1 at.2 unknown)
  value_done (Some d) at answer (inr (inl (known, inl (lacks, is)))) = absurd (numbered field x.declared.types type at.0 at.1 lacks)
  value_done (Some d) at answer (inr (inl (known, inr (has, told)))) = answered answer
      (field_other means x.declared now (valued x.declared.types type field d) field (numbers_of x.declared.groups names) value_checked answer (λ vs. tt) told)
      (inr (refusal_by at.0 (Ok d) false at.1 at.2 known, (at.0, at.1, (d, at.2, told), refl)))
  value_done (Some d) at answer (inr (inr is)) = forgets answer is
