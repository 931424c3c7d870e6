-- What the INSERTs of several objects mean.
use Rattle.std.proofs.Common.{◌≡◌, ◌+◌, ◌/◌, zero, suc, inl, inr, ℕ, List, [], ◌∷◌, length, map, true, refl, lit≤, sym, subst, ◌∙◌, arith}
use Rattle.std.specs.Fmt.{digits}
use Rattle.sqlite.specs.Term.{Term, lit, col}
use Rattle.sqlite.specs.declared.types.Value.TheVariants.{Null, Text}
use Rattle.sqlite.specs.Order.{Row}
use Rattle.sqlite.specs.Source.TheVariants.{Values}
use Rattle.sqlite.specs.Command.TheVariants.{Insert}
use Rattle.sqlite.specs.Effect.{value_rows}
use Rattle.sqlite.specs.Rows.{stamped}
use Rattle.sqlite.specs.Listing.{understood}
use Rattle.sqlite.proofs.Callers.{IsPlain, command_of}
use Rattle.sqlite_typing.specs.Types.{accepts_terms}
use Rattle.sqlite_tied.specs.Compute.{everything}
use Rattle.fv_store_tables.specs.Tables.{store_schema, kept_object}
use Rattle.fv_store_tables.specs.Stands.{ObjectTexts}
use Rattle.fv_store_tables.specs.Changes.{AllTexts}
use Rattle.fv_store_tables.specs.Inserting.{IsRun, insert_of, row_values}
use Rattle.fv_store_tables.proofs.Texts.{IsWhole}

-- what a statement gives for an object, before the row has a rowid
abbrev pub source : List ℕ → List ℕ × ObjectTexts → Row
source id o = Null ∷ Text id ∷ Text o.0 ∷ Text o.1.kind ∷ Text o.1.fields ∷ []

-- the values of so many rows, from this parameter on
abbrev pub run_terms : ℕ → ℕ → List Term
run_terms zero at = []
run_terms (suc n) at = lit Null ∷ col 0 0 ∷ col 0 at ∷ col 0 (at + 1) ∷ col 0 (at + 2) ∷ run_terms n (at + 3)

-- the statement of so many rows puts these objects
pub record RunMeans (n : ℕ) (id : List ℕ) (os : AllTexts) : Type 0 where
  pub is : command_of (understood store_schema (insert_of n)) ≡ Insert 2 (Values (run_terms n 1) 5)
  pub plain : IsPlain (understood store_schema (insert_of n))
  pub whole : IsWhole (insert_of n) (length (row_values id os)) (understood store_schema (insert_of n))
  pub accepted : accepts_terms (run_terms n 1) (stamped kept_object (row_values id os)) ≡ true
  pub given : value_rows (stamped kept_object (row_values id os)) 5 (length (run_terms n 1) / 5) (run_terms n 1) ≡ map (source id) os

one_means : (id : List ℕ) (os : AllTexts) → length os ≡ 1 → RunMeans 1 id os
unfolding understood everything digits
one_means id (a ∷ []) is = record { is = refl; plain = (refl, refl); whole = (lit≤ tt, refl); accepted = refl; given = refl }
one_means id _ is = absurd (omega (arith, is))

two_mean : (id : List ℕ) (os : AllTexts) → length os ≡ 2 → RunMeans 2 id os
unfolding understood everything digits
two_mean id (a ∷ b ∷ []) is = record { is = refl; plain = (refl, refl); whole = (lit≤ tt, refl); accepted = refl; given = refl }
two_mean id _ is = absurd (omega (arith, is))

four_mean : (id : List ℕ) (os : AllTexts) → length os ≡ 4 → RunMeans 4 id os
unfolding understood everything digits
four_mean id (a ∷ b ∷ c ∷ d ∷ []) is = record { is = refl; plain = (refl, refl); whole = (lit≤ tt, refl); accepted = refl; given = refl }
four_mean id _ is = absurd (omega (arith, is))

eight_mean : (id : List ℕ) (os : AllTexts) → length os ≡ 8 → RunMeans 8 id os
unfolding understood everything digits
eight_mean id (a ∷ b ∷ c ∷ d ∷ e ∷ f ∷ g ∷ h ∷ []) is = record { is = refl; plain = (refl, refl); whole = (lit≤ tt, refl); accepted = refl; given = refl }
eight_mean id _ is = absurd (omega (arith, is))

sixteen_mean : (id : List ℕ) (os : AllTexts) → length os ≡ 16 → RunMeans 16 id os
unfolding understood everything digits
sixteen_mean id (a ∷ b ∷ c ∷ d ∷ e ∷ f ∷ g ∷ h ∷ i ∷ j ∷ k ∷ l ∷ m ∷ n ∷ o ∷ p ∷ []) is =
    record { is = refl; plain = (refl, refl); whole = (lit≤ tt, refl); accepted = refl; given = refl }
sixteen_mean id _ is = absurd (omega (arith, is))

pub runs_mean : (id : List ℕ) (os : AllTexts) → IsRun (length os) → RunMeans (length os) id os
runs_mean id os run = go (length os) refl run
  where
    go : (n : ℕ) → length os ≡ n → IsRun n → RunMeans n id os
    go n is (inl e) = subst (λ k. RunMeans k id os) (sym e) (one_means id os (is ∙ e))
    go n is (inr (inl e)) = subst (λ k. RunMeans k id os) (sym e) (two_mean id os (is ∙ e))
    go n is (inr (inr (inl e))) = subst (λ k. RunMeans k id os) (sym e) (four_mean id os (is ∙ e))
    go n is (inr (inr (inr (inl e)))) = subst (λ k. RunMeans k id os) (sym e) (eight_mean id os (is ∙ e))
    go n is (inr (inr (inr (inr e)))) = subst (λ k. RunMeans k id os) (sym e) (sixteen_mean id os (is ∙ e))
