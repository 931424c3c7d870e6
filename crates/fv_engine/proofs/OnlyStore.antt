-- The text of C11 tells that the store failed, and no other answer's text does.
use Rattle.std.proofs.Common.{codes, slice_index_or, ◌==◌, ◌≡◌, ℕ, List, Bool, true, false, Option, None, Some, refl, sym, ap, ◌∙◌}
use Rattle.json.specs.Print.{escape_byte}
use Rattle.serde_json.specs.Data as json
use Rattle.serde_json.specs.Written.{compact_text}
use Rattle.fv_engine_reply.specs.Answers.{Answer, done, shown, violated, checked, field_checked, value_checked, ids, refused, part_refused, redeclared, misdeclared, unfit}
use Rattle.fv_engine_reply.specs.Texts.{refused_json, answer_json, answer_text}
use Rattle.fv_engine_reply.specs.declared.answer.Refusal.{Refusal}
use Rattle.fv_engine_reply.specs.declared.answer.Refusal.TheVariants.{LineTooLong, NotJson, Shape, UnknownForm, Bundle, NoRecord, UnknownGroup, NoSuchField, TooManyVisits, Store, Memory}

-- the text of C11
abbrev store_text : List ℕ
store_text = codes "{\"error\":\"C11\",\"name\":\"Store\"}"

told : answer_text (refused Store) ≡ store_text
unfolding escape_byte
told = refl

-- a text has another byte at that place
abbrev agrees_at : ℕ → List ℕ → Bool
agrees_at n text = slice_index_or text n 0 == slice_index_or store_text n 0

differs : (n : ℕ) (text : List ℕ) → agrees_at n store_text ≡ true → agrees_at n text ≡ false → text ≡ answer_text (refused Store) → ⊥
differs n text same other is = let never : false ≡ true = sym other ∙ ap (agrees_at n) (is ∙ told) ∙ same in cc

-- ---- the first name isn't `error`

bundle_differs : (d : json.Data) (ms : json.Members) → agrees_at 2 (compact_text (json.object (json.member (codes "bundle") d ms))) ≡ false
unfolding escape_byte
bundle_differs d ms = refl

ok_differs : (d : json.Data) (ms : json.Members) → agrees_at 2 (compact_text (json.object (json.member (codes "ok") d ms))) ≡ false
unfolding escape_byte
ok_differs d ms = refl

ids_differ : (d : json.Data) (ms : json.Members) → agrees_at 2 (compact_text (json.object (json.member (codes "ids") d ms))) ≡ false
unfolding escape_byte
ids_differ d ms = refl

bundle_other : (j d : json.Data) (ms : json.Members) → j ≡ json.object (json.member (codes "bundle") d ms) → compact_text j ≡ answer_text (refused Store) → ⊥
bundle_other j d ms is e = differs 2 (compact_text j) refl (ap (λ (k : json.Data). agrees_at 2 (compact_text k)) is ∙ bundle_differs d ms) e

ok_other : (j d : json.Data) (ms : json.Members) → j ≡ json.object (json.member (codes "ok") d ms) → compact_text j ≡ answer_text (refused Store) → ⊥
ok_other j d ms is e = differs 2 (compact_text j) refl (ap (λ (k : json.Data). agrees_at 2 (compact_text k)) is ∙ ok_differs d ms) e

ids_other : (j d : json.Data) (ms : json.Members) → j ≡ json.object (json.member (codes "ids") d ms) → compact_text j ≡ answer_text (refused Store) → ⊥
ids_other j d ms is e = differs 2 (compact_text j) refl (ap (λ (k : json.Data). agrees_at 2 (compact_text k)) is ∙ ids_differ d ms) e

-- ---- another code, or a part's number behind the name

violations_differ : (ms : json.Members) → agrees_at 12 (compact_text (json.object (json.member (codes "error") (json.string (codes "C10")) ms))) ≡ false
unfolding escape_byte
violations_differ ms = refl

violations_other : (j : json.Data) (ms : json.Members) → j ≡ json.object (json.member (codes "error") (json.string (codes "C10")) ms)
    → compact_text j ≡ answer_text (refused Store) → ⊥
violations_other j ms is e = differs 12 (compact_text j) refl (ap (λ (k : json.Data). agrees_at 12 (compact_text k)) is ∙ violations_differ ms) e

misdeclared_differ : (ms : json.Members) → agrees_at 12 (compact_text (json.object (json.member (codes "error") (json.string (codes "C13")) ms))) ≡ false
unfolding escape_byte
misdeclared_differ ms = refl

misdeclared_other : (j : json.Data) (ms : json.Members) → j ≡ json.object (json.member (codes "error") (json.string (codes "C13")) ms)
    → compact_text j ≡ answer_text (refused Store) → ⊥
misdeclared_other j ms is e = differs 12 (compact_text j) refl (ap (λ (k : json.Data). agrees_at 12 (compact_text k)) is ∙ misdeclared_differ ms) e

unfit_differs : (ms : json.Members) → agrees_at 12 (compact_text (json.object (json.member (codes "error") (json.string (codes "C14")) ms))) ≡ false
unfolding escape_byte
unfit_differs ms = refl

unfit_other : (j : json.Data) (ms : json.Members) → j ≡ json.object (json.member (codes "error") (json.string (codes "C14")) ms)
    → compact_text j ≡ answer_text (refused Store) → ⊥
unfit_other j ms is e = differs 12 (compact_text j) refl (ap (λ (k : json.Data). agrees_at 12 (compact_text k)) is ∙ unfit_differs ms) e

part_differs : (n : ℕ) → agrees_at 29 (compact_text (refused_json (Some n) Store)) ≡ false
unfolding escape_byte
part_differs n = refl

refusal_is : (part : Option ℕ) (why : Refusal) → compact_text (refused_json part why) ≡ answer_text (refused Store) → (part ≡ None) × (why ≡ Store)
unfolding escape_byte
refusal_is part LineTooLong e = absurd (differs 12 (compact_text (refused_json part LineTooLong)) refl refl e)
refusal_is part NotJson e = absurd (differs 11 (compact_text (refused_json part NotJson)) refl refl e)
refusal_is part Shape e = absurd (differs 11 (compact_text (refused_json part Shape)) refl refl e)
refusal_is part UnknownForm e = absurd (differs 11 (compact_text (refused_json part UnknownForm)) refl refl e)
refusal_is part (Bundle fault) e = absurd (differs 11 (compact_text (refused_json part (Bundle fault))) refl refl e)
refusal_is part NoRecord e = absurd (differs 11 (compact_text (refused_json part NoRecord)) refl refl e)
refusal_is part UnknownGroup e = absurd (differs 11 (compact_text (refused_json part UnknownGroup)) refl refl e)
refusal_is part NoSuchField e = absurd (differs 11 (compact_text (refused_json part NoSuchField)) refl refl e)
refusal_is part TooManyVisits e = absurd (differs 11 (compact_text (refused_json part TooManyVisits)) refl refl e)
refusal_is None Store e = (refl, refl)
refusal_is (Some n) Store e = absurd (differs 29 (compact_text (refused_json (Some n) Store)) refl (part_differs n) e)
refusal_is part Memory e = absurd (differs 12 (compact_text (refused_json part Memory)) refl refl e)

pub only_store : (a : Answer) → answer_text a ≡ answer_text (refused Store) → a ≡ refused Store
only_store (done what) e = absurd (ok_other (answer_json (done what)) _ _ refl e)
only_store (shown id form b) e = absurd (bundle_other (answer_json (shown id form b)) _ _ refl e)
only_store (violated rs) e = absurd (violations_other (answer_json (violated rs)) _ refl e)
only_store (checked vs) e = absurd (ok_other (answer_json (checked vs)) _ _ refl e)
only_store (field_checked vs) e = absurd (ok_other (answer_json (field_checked vs)) _ _ refl e)
only_store (value_checked vs) e = absurd (ok_other (answer_json (value_checked vs)) _ _ refl e)
only_store (ids ts) e = absurd (ids_other (answer_json (ids ts)) _ _ refl e)
only_store (refused why) e = ap refused (refusal_is None why e).1
only_store (part_refused n why) e = let never : Some n ≡ None = (refusal_is (Some n) why e).0 in cc
only_store redeclared e = absurd (ok_other (answer_json redeclared) _ _ refl e)
only_store (misdeclared fault) e = absurd (misdeclared_other (answer_json (misdeclared fault)) _ refl e)
only_store (unfit id why) e = absurd (unfit_other (answer_json (unfit id why)) _ refl e)
