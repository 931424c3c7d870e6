-- A service over a new file takes the lines of an export, and then has what was exported.
use Rattle.std.proofs.Common.{◌≡◌, ◌⊎◌, inl, inr, ◌<◌, ◌≤◌, ◌||◌, ℕ, ℤ, List, [], ◌∷◌, Bool, true, false, Option, Some, None, Result, Ok, Err, cond, is_some, length, refl, sym, ap, subst, ◌∙◌}
use Rattle.std.specs.List.{AllByRecursion}
use Rattle.std.specs.Result.{result_map_both}
use Rattle.std.specs.Str.{bytes_eq, is_utf8}
use Rattle.serde_json.specs.Data.{depth}
use Rattle.serde_json.specs.Read.{max_depth}
use Rattle.serde_json.specs.Written.{compact_text}
use Rattle.fv_bundle.specs.Bundles.{Bundled}
use Rattle.fv_declare_judging.specs.Declares.{Declares}
use Rattle.fv_declare_schema.specs.Declarations.{Declarations}
use Rattle.fv_engine.specs.Exports.{AreAllOf, put_json, redeclare_json}
use Rattle.fv_engine.proofs.ExportLaws.{IsPlain, all_put, bundle_again, declarations_ask, put_all, record_asks}
use Rattle.fv_engine.proofs.Exported.{no_ids}
use Rattle.fv_engine_command.specs.Commands.{Asked, alone, is_id, put}
use Rattle.fv_engine_pending.specs.Judging.{IsListingOf, AreListings, AreListingsOf}
use Rattle.fv_engine_machine.specs.Redeclaring.{IsAgain, Reign}
use Rattle.fv_engine_machine.specs.Refusals.{first_of, made, refusal, told_fault, when}
use Rattle.fv_engine_machine.specs.Services.{Turned, LineTurns}
use Rattle.fv_engine_machine.specs.Step.{Answers}
use Rattle.fv_engine_pending.specs.Parts.{and_then, bundle_under, is_misread, kept_as, part_made, parts_made}
use Rattle.fv_engine_pending.specs.declared.fault.PartFault.{PartFault}
use Rattle.fv_engine_pending.specs.declared.fault.PartFault.TheVariants as part
use Rattle.fv_engine_reply.specs.Answers.{done, redeclared, refused}
use Rattle.fv_engine_reply.specs.Texts.{answer_text}
use Rattle.fv_engine_reply.specs.declared.answer.Done.TheVariants.{Put}
use Rattle.fv_engine_reply.specs.declared.answer.Refusal.TheVariants.{LineTooLong, NoRecord, NoSuchField, NotJson, Shape, UnknownForm, UnknownGroup}
use Rattle.fv_model.specs.Reading.{bundle_read}
use Rattle.fv_model.specs.Writing.{bundle_json}
use Rattle.fv_model.specs.declared.fault.BundleFault.{BundleFault}
use Rattle.fv_bundle.specs.Types.{FieldsApart}
use Rattle.fv_registry.specs.Meanings.{Meanings}
use Rattle.fv_registry.specs.Rules.{Known}
use Rattle.fv_store.specs.Records.{RecordFits, Kept, Records, no_records, with_record}

-- what a line of a record needs so that it can be read back: an id that a command may have, JSON that is read, a text within the limit of a line
pub record HasLine (id : List ℕ) (k : Kept) : Type 0 where
  pub named : is_id id ≡ true
  pub plain : IsPlain (bundle_json k.bundle)
  pub shallow : depth (bundle_json k.bundle) < max_depth
  pub short : length (compact_text (put_json id k.form (bundle_json k.bundle))) ≤ 1048576
  pub text : is_utf8 (compact_text (put_json id k.form (bundle_json k.bundle))) ≡ true

module _ (means : Meanings) (ds : Declarations) (now : ℤ) (apart : FieldsApart ds.types) where
  module _ (id : List ℕ) (k : Kept) (fits : RecordFits ds.types ds.forms k) where
    put_part : (m : Records) → part_made ds.types ds.forms (put id k.form (bundle_json k.bundle)) m ≡ Ok (with_record id k m)
    put_part m =
        ap (λ (o : Option (List ℕ)). cond (is_some o) (kept_as id k.form m (bundle_read ds.types o (bundle_json k.bundle))) (Err part.UnknownForm)) fits.declared
        ∙ ap (kept_as id k.form m) (bundle_again ds.types fits.root k.bundle apart fits.typed fits.rooted)

    put_made : (m : Records) → made ds (put id k.form (bundle_json k.bundle) ∷ []) m ≡ Ok (with_record id k m)
    put_made m = ap (λ (r : Result Records PartFault). and_then (parts_made ds.types ds.forms 1 []) (result_map_both (λ x. x) (λ e. (0, e)) r)) (put_part m)

    -- no record has a violation among those that are put
    none_listed : (m : Records) → IsListingOf means ds now k [] → AreListings means ds now (put id k.form (bundle_json k.bundle) ∷ []) (with_record id k m) []
    none_listed m good = record {
      ascending = no_ids;
      sound = λ l has. absurd has;
      complete = λ other j touched. inl (at other j (bytes_eq other id) refl touched.0 touched.1);
    }
      where
        at : (other : List ℕ) (j : Kept) (b : Bool) → bytes_eq other id ≡ b → (b || false) ≡ true → cond b (Some k) (m other) ≡ Some j → IsListingOf means ds now j []
        at other j true same touched is = let e : k ≡ j = cc in subst (λ (i : Kept). IsListingOf means ds now i []) e good
        at other j false other_id touched is = cc

    no_refusal : (m : Records) → refusal ds m (alone (put id k.form (bundle_json k.bundle))) ≡ None
    no_refusal m =
        let told = λ (b : Bool) (r : Result Records (ℕ × PartFault)). first_of (when false LineTooLong ∷ when false NotJson ∷ when b Shape ∷ when false UnknownForm ∷ None ∷ told_fault (λ n why. refused why) r ∷ when false NoRecord ∷ when false UnknownGroup ∷ when false NoSuchField ∷ []) in
        let read : bundle_under ds.types ds.forms k.form (bundle_json k.bundle) ≡ Ok k.bundle =
        ap (λ (o : Option (List ℕ)). bundle_read ds.types o (bundle_json k.bundle)) fits.declared ∙ bundle_again ds.types fits.root k.bundle apart fits.typed fits.rooted in
        ap (λ (r : Result Bundled BundleFault). told (is_misread r || false) (made ds (put id k.form (bundle_json k.bundle) ∷ []) m)) read ∙ ap (told false) (put_made m)

    put_taken : (m : Records) → IsListingOf means ds now k [] → Answers means ds now (alone (put id k.form (bundle_json k.bundle))) m (done Put) (with_record id k m)
    put_taken m good = inr (no_refusal m, (with_record id k m, put_made m, inr (inl (none_listed m good, refl, refl))))

    -- the line of a record that is good at the moment is taken, and the record stands at its id
    pub put_turns : (known : Known) (m : Records) → HasLine id k → IsListingOf means ds now k []
        → Turned known means (record { declared = ds; records = m }) (compact_text (put_json id k.form (bundle_json k.bundle))) now (answer_text (done Put)) (record { declared = ds; records = with_record id k m })
    put_turns known m line good = (
      done Put,
      refl,
      subst (λ (a : Asked). LineTurns known means (record { declared = ds; records = m }) a now (done Put) (record { declared = ds; records = with_record id k m }))
          (sym (record_asks id k line.named line.plain line.shallow line.short line.text)) (inl (put_taken m good), refl),
    )

  -- the line of the declarations is taken where there is no record
  pub declarations_turn : (known : Known) (text : List ℕ) (first : Declarations) → Declares known text (Ok ds) → length (compact_text (redeclare_json text)) ≤ 1048576 → is_utf8 (compact_text (redeclare_json text)) ≡ true
      → Turned known means (record { declared = first; records = no_records }) (compact_text (redeclare_json text)) now (answer_text redeclared) (record { declared = ds; records = no_records })
  declarations_turn known text first declares short is_text = (
    redeclared,
    refl,
    subst (λ (a : Asked). LineTurns known means (record { declared = first; records = no_records }) a now redeclared (record { declared = ds; records = no_records })) (sym (declarations_ask text short is_text))
        (inl (inr (ds, declares, inr ((λ id k is. cc), inr (inl (none, refl, refl)))))),
  )
    where
      none : AreListingsOf means ds now (IsAgain ds no_records) []
      none = record { ascending = no_ids; sound = λ l has. absurd has; complete = λ id k is. cc }

  -- ---- all lines

  -- a record that fits the declarations, whose line can be read, and that has no violation at the moment
  abbrev pub IsGood : List ℕ → Kept → Type 0
  IsGood id k = RecordFits ds.types ds.forms k × HasLine id k × IsListingOf means ds now k []

  -- lines, each with its reply, one after another
  abbrev pub RunsTo : Known → Reign → List (List ℕ × List ℕ) → Reign → Type 0
  RunsTo known old [] new = new ≡ old
  RunsTo known old (l ∷ ls) new = (mid : Reign) × Turned known means old l.0 now l.1 mid × RunsTo known mid ls new

  -- the lines of records without their ends, each with the reply that it was taken
  abbrev pub put_lines : List (List ℕ × Kept) → List (List ℕ × List ℕ)
  put_lines [] = []
  put_lines (k ∷ ks) = (compact_text (put_json k.0 k.1.form (bundle_json k.1.bundle)), answer_text (done Put)) ∷ put_lines ks

  puts_run : (known : Known) (all : List (List ℕ × Kept)) (m : Records) → AllByRecursion (λ k. IsGood k.0 k.1) all
      → RunsTo known (record { declared = ds; records = m }) (put_lines all) (record { declared = ds; records = put_all all m })
  puts_run known [] m good = refl
  puts_run known (k ∷ ks) m good = (record { declared = ds; records = with_record k.0 k.1 m }, put_turns k.0 k.1 good.0.0 known m good.0.1 good.0.2, puts_run known ks (with_record k.0 k.1 m) good.1)

  -- A service that has no record takes the lines of an export, each at a moment at which no record has a violation, and then has the
  -- declarations and the records that were exported.
  pub export_read_back : (known : Known) (text : List ℕ) (first : Declarations) (m : Records) (all : List (List ℕ × Kept)) → Declares known text (Ok ds) → length (compact_text (redeclare_json text)) ≤ 1048576
      → is_utf8 (compact_text (redeclare_json text)) ≡ true → AreAllOf m all → AllByRecursion (λ k. IsGood k.0 k.1) all
      → (n : Records) × ((id : List ℕ) → n id ≡ m id)
      × RunsTo known (record { declared = first; records = no_records }) ((compact_text (redeclare_json text), answer_text redeclared) ∷ put_lines all) (record { declared = ds; records = n })
  export_read_back known text first m all declares short is_text are good = (
    put_all all no_records,
    all_put m all are,
    (record { declared = ds; records = no_records }, declarations_turn known text first declares short is_text, puts_run known all no_records good),
  )
