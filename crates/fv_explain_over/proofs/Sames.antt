-- Values that are the same, item by item and member by member.
use Rattle.std.proofs.Common.{◌≡◌, ◌≢◌, ℕ, List, [], ◌∷◌, length, Bool, true, false, ◌&&◌, ◌==◌, Some, None, string_bytes, refl, sym, ◌∙◌, arith}
use Rattle.std.proofs.lemmas.Bool.Decides.{nat_tests}
use Rattle.serde_json.specs.Data.{Data, Members}
use Rattle.serde_json.specs.Find.{get_member}
use Rattle.serde_json.specs.View.{view, items_view, members_view}
use Rattle.serde_json.specs.declared.value.Value.{Value}
use Rattle.serde_json.proofs.Views.{Entry, members_len-members_view}
use Rattle.fv_explain_over.specs.Same.{same, same_items, has_members, same_members}

no_and : (a b : Bool) → b ≡ false → (a && b) ≡ false
no_and true b e = e
no_and false b e = refl

-- arrays of other lengths are others
pub other_lengths : (vs ws : List Value) → length vs ≢ length ws → false ≡ same_items (items_view vs) (items_view ws)
other_lengths [] [] other = absurd (other refl)
other_lengths [] (w ∷ ws) other = refl
other_lengths (v ∷ vs) [] other = refl
other_lengths (v ∷ vs) (w ∷ ws) other = sym (no_and (same (view v) (view w)) _ (sym (other_lengths vs ws (λ e. other (omega (arith, e))))))

tested : (m n : ℕ) → m ≢ n → (m == n) ≡ false
tested m n other = grind (arith, nat_tests)

-- objects of other numbers of members are others
pub other_many : (es fs : List Entry) → length es ≢ length fs → false ≡ same_members (members_view es) (members_view fs)
other_many es fs other = rw (members_len-members_view es, members_len-members_view fs, tested (length es) (length fs) other) refl

-- objects of one number of members are the same where the second has those of the first
pub same_many : (es fs : List Entry) → length es ≡ length fs → has_members (members_view es) (members_view fs) ≡ same_members (members_view es) (members_view fs)
same_many es fs is = rw (members_len-members_view es, members_len-members_view fs, (let same : (length es == length fs) ≡ true = grind (arith, nat_tests) in same)) refl

module _ (es more : List Entry) (e : Entry) (ns : Members) (whole : Bool) where
  -- one isn't there
  pub not_there : es ≡ e ∷ more → None ≡ get_member (string_bytes e.0) ns → has_members (members_view es) ns ≡ whole → false ≡ whole
  not_there is none so_far = (let fails : false ≡ has_members (members_view es) ns = rw (is, ← none) refl in fails) ∙ so_far

  -- another is there
  pub other_there : (d : Data) → es ≡ e ∷ more → Some d ≡ get_member (string_bytes e.0) ns → same (view e.1) d ≡ false → has_members (members_view es) ns ≡ whole → false ≡ whole
  other_there d is some other so_far = (let fails : false ≡ has_members (members_view es) ns = rw (is, ← some, other) refl in fails) ∙ so_far

  -- the same is there
  pub same_there : (d : Data) → es ≡ e ∷ more → Some d ≡ get_member (string_bytes e.0) ns → same (view e.1) d ≡ true → has_members (members_view es) ns ≡ whole → has_members (members_view more) ns ≡ whole
  same_there d is some alike so_far = (let goes_on : has_members (members_view more) ns ≡ has_members (members_view es) ns = rw (is, ← some, alike) refl in goes_on) ∙ so_far
