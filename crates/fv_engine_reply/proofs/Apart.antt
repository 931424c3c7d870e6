-- Answers that their texts tell apart.
use Rattle.std.proofs.Common.{codes, slice_index_or, if◌then◌else◌, ◌==◌, ◌≡◌, ◌⊎◌, ℕ, List, Bool, true, false, inl, inr, refl, sym, ap, ◌∙◌}
use Rattle.json.specs.Print.{escape_byte}
use Rattle.serde_json.specs.Data as json
use Rattle.serde_json.specs.Written.{compact_text}
use Rattle.fv_validate.specs.Violations.{Reported}
use Rattle.fv_engine_reply.specs.Answers.{Answer, done, shown, violated, checked, field_checked, value_checked, ids, refused, part_refused, redeclared, misdeclared, unfit}
use Rattle.fv_engine_reply.specs.Texts.{listing_json, answer_json, answer_text}
use Rattle.fv_engine_reply.specs.declared.answer.Done.{Done}
use Rattle.fv_engine_reply.specs.declared.answer.Done.TheVariants.{Put, Set, Remove, Batch}
use Rattle.fv_engine_reply.specs.declared.answer.Refusal.{Refusal}

-- the first byte of the first name of an object's text is the o of `ok`
abbrev begins_with_o : List ℕ → Bool
begins_with_o text = slice_index_or text 2 0 == 111

done_begins : (what : Done) → begins_with_o (answer_text (done what)) ≡ true
unfolding escape_byte
done_begins Put = refl
done_begins Set = refl
done_begins Remove = refl
done_begins Batch = refl

error_begins : (d : json.Data) (ms : json.Members) → begins_with_o (compact_text (json.object (json.member (codes "error") d ms))) ≡ false
unfolding escape_byte
error_begins d ms = refl

bundle_begins : (d : json.Data) (ms : json.Members) → begins_with_o (compact_text (json.object (json.member (codes "bundle") d ms))) ≡ false
unfolding escape_byte
bundle_begins d ms = refl

ids_begin : (d : json.Data) (ms : json.Members) → begins_with_o (compact_text (json.object (json.member (codes "ids") d ms))) ≡ false
unfolding escape_byte
ids_begin d ms = refl

redeclare_begins : begins_with_o (answer_text redeclared) ≡ true
unfolding escape_byte
redeclare_begins = refl

other : (text wanted : List ℕ) → begins_with_o text ≡ false → begins_with_o wanted ≡ true → text ≡ wanted → ⊥
other text wanted differs begins is = let never : false ≡ true = sym differs ∙ ap begins_with_o is ∙ begins in cc

error_other : (j d : json.Data) (ms : json.Members) (wanted : List ℕ) → begins_with_o wanted ≡ true → j ≡ json.object (json.member (codes "error") d ms) → compact_text j ≡ wanted → ⊥
error_other j d ms wanted begins is = other (compact_text j) wanted (ap (λ (k : json.Data). begins_with_o (compact_text k)) is ∙ error_begins d ms) begins

bundle_other : (j d : json.Data) (ms : json.Members) (wanted : List ℕ) → begins_with_o wanted ≡ true → j ≡ json.object (json.member (codes "bundle") d ms) → compact_text j ≡ wanted → ⊥
bundle_other j d ms wanted begins is = other (compact_text j) wanted (ap (λ (k : json.Data). begins_with_o (compact_text k)) is ∙ bundle_begins d ms) begins

ids_other : (j d : json.Data) (ms : json.Members) (wanted : List ℕ) → begins_with_o wanted ≡ true → j ≡ json.object (json.member (codes "ids") d ms) → compact_text j ≡ wanted → ⊥
ids_other j d ms wanted begins is = other (compact_text j) wanted (ap (λ (k : json.Data). begins_with_o (compact_text k)) is ∙ ids_begin d ms) begins

-- the first byte of what stands at `ok` is the c of `check`
abbrev tells_of_c : List ℕ → Bool
tells_of_c text = slice_index_or text 7 0 == 99

done_tells : (what : Done) → tells_of_c (answer_text (done what)) ≡ false
unfolding escape_byte
done_tells Put = refl
done_tells Set = refl
done_tells Remove = refl
done_tells Batch = refl

redeclare_tells : tells_of_c (answer_text redeclared) ≡ false
unfolding escape_byte
redeclare_tells = refl

check_tells : (vs : List Reported) → tells_of_c (compact_text (listing_json (codes "check") vs)) ≡ true
unfolding escape_byte
check_tells vs = refl

field_tells : (vs : List Reported) → tells_of_c (compact_text (listing_json (codes "checkfield") vs)) ≡ true
unfolding escape_byte
field_tells vs = refl

value_tells : (vs : List Reported) → tells_of_c (compact_text (listing_json (codes "checkvalue") vs)) ≡ true
unfolding escape_byte
value_tells vs = refl

check_other : (text wanted : List ℕ) → tells_of_c text ≡ true → tells_of_c wanted ≡ false → text ≡ wanted → ⊥
check_other text wanted tells differs is = let never : true ≡ false = sym tells ∙ ap tells_of_c is ∙ differs in cc

-- the third byte of what stands at `ok` is the d of `redeclare`
abbrev tells_of_d : List ℕ → Bool
tells_of_d text = slice_index_or text 9 0 == 100

done_lacks_d : (what : Done) → tells_of_d (answer_text (done what)) ≡ false
unfolding escape_byte
done_lacks_d Put = refl
done_lacks_d Set = refl
done_lacks_d Remove = refl
done_lacks_d Batch = refl

redeclare_has_d : tells_of_d (answer_text redeclared) ≡ true
unfolding escape_byte
redeclare_has_d = refl

redeclare_other : (what : Done) → answer_text (done what) ≡ answer_text redeclared → ⊥
redeclare_other what is = let never : false ≡ true = sym (done_lacks_d what) ∙ ap tells_of_d is ∙ redeclare_has_d in cc

-- what was done, by the first byte of what stands at `ok`
abbrev told_by : ℕ → Done
told_by byte = if byte == 112 then Put else if byte == 115 then Set else if byte == 114 then Remove else Batch

abbrev told : List ℕ → Done
told text = told_by (slice_index_or text 7 0)

told_back : (what : Done) → told (answer_text (done what)) ≡ what
unfolding escape_byte
told_back Put = refl
told_back Set = refl
told_back Remove = refl
told_back Batch = refl

done_apart : (it what : Done) → answer_text (done it) ≡ answer_text (done what) → it ≡ what
done_apart it what is = sym (told_back it) ∙ ap told is ∙ told_back what

-- a command was taken: it changed records, or declarations
abbrev WasTaken : Answer → Type 0
WasTaken a = ((what : Done) × (a ≡ done what)) ⊎ (a ≡ redeclared)

-- only the text of a command that was taken begins so
taken_told : (a : Answer) (wanted : List ℕ) → begins_with_o wanted ≡ true → tells_of_c wanted ≡ false → answer_text a ≡ wanted → WasTaken a
taken_told (done what) wanted begins differs e = inl (what, refl)
taken_told (shown id form b) wanted begins differs e = absurd (bundle_other (answer_json (shown id form b)) _ _ wanted begins refl e)
taken_told (violated rs) wanted begins differs e = absurd (error_other (answer_json (violated rs)) _ _ wanted begins refl e)
taken_told (checked vs) wanted begins differs e = absurd (check_other (answer_text (checked vs)) wanted (check_tells vs) differs e)
taken_told (field_checked vs) wanted begins differs e = absurd (check_other (answer_text (field_checked vs)) wanted (field_tells vs) differs e)
taken_told (value_checked vs) wanted begins differs e = absurd (check_other (answer_text (value_checked vs)) wanted (value_tells vs) differs e)
taken_told (ids ts) wanted begins differs e = absurd (ids_other (answer_json (ids ts)) _ _ wanted begins refl e)
taken_told (refused why) wanted begins differs e = absurd (error_other (answer_json (refused why)) _ _ wanted begins refl e)
taken_told (part_refused n why) wanted begins differs e = absurd (error_other (answer_json (part_refused n why)) _ _ wanted begins refl e)
taken_told redeclared wanted begins differs e = inr refl
taken_told (misdeclared fault) wanted begins differs e = absurd (error_other (answer_json (misdeclared fault)) _ _ wanted begins refl e)
taken_told (unfit id why) wanted begins differs e = absurd (error_other (answer_json (unfit id why)) _ _ wanted begins refl e)

-- only the text of a command that changed records tells that it was taken, and which one it was
pub only_done : (a : Answer) (what : Done) → answer_text a ≡ answer_text (done what) → a ≡ done what
only_done a what e =
    elim (taken_told a (answer_text (done what)) (done_begins what) (done_tells what) e) [
      | inl it ↦ it.1 ∙ ap done (done_apart it.0 what (ap answer_text (sym it.1) ∙ e))
      | inr is ↦ absurd (redeclare_other what (sym e ∙ ap answer_text is))
    ]

-- only the text of changed declarations tells that they were changed
pub only_redeclared : (a : Answer) → answer_text a ≡ answer_text redeclared → a ≡ redeclared
only_redeclared a e =
    elim (taken_told a (answer_text redeclared) redeclare_begins redeclare_tells e) [
      | inl it ↦ absurd (redeclare_other it.0 (ap answer_text (sym it.1) ∙ e))
      | inr is ↦ is
    ]

-- so no refusal tells it
pub refused_other : (why : Refusal) → answer_text (refused why) ≡ answer_text redeclared → ⊥
refused_other why e = let is : refused why ≡ redeclared = only_redeclared (refused why) e in cc
