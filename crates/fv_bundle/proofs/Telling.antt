-- Flaws that are told while data are read.
use Rattle.std.proofs.Common.{◌≡◌, Bool, true, false, ◌||◌, refl, sym, ap, ◌∙◌}
use Rattle.fv_bundle.specs.Tells.{Tells}
use Rattle.fv_bundle.specs.Flaws.{Flaw, undeclared, dangles, strays, is_large}
use Rattle.fv_bundle.specs.Names.{ObjectTypes}
use Rattle.fv_bundle.specs.declared.flaws.Flaws.{Flaws}

or_assoc : (a b c : Bool) → ((a || b) || c) ≡ (a || (b || c))
or_assoc true b c = refl
or_assoc false b c = refl

-- what is told so far is what is there, together with what is there further on
pub record Telling (told : Flaws) (types : ObjectTypes) (further all : Flaw → Bool) : Type 0 where
  pub undeclared : (told.undeclared || further undeclared) ≡ all undeclared
  pub dangling : (told.dangling || further (dangles types)) ≡ all (dangles types)
  pub stray : (told.stray || further (strays types)) ≡ all (strays types)
  pub large : (told.large || further is_large) ≡ all is_large

-- these and those
pub record Joins (told found more : Flaws) : Type 0 where
  pub undeclared : more.undeclared ≡ (told.undeclared || found.undeclared)
  pub dangling : more.dangling ≡ (told.dangling || found.dangling)
  pub stray : more.stray ≡ (told.stray || found.stray)
  pub large : more.large ≡ (told.large || found.large)

one_more : (told found more here before further all : Bool) → more ≡ (told || found) → found ≡ here → before ≡ (here || further) → (told || before) ≡ all → (more || further) ≡ all
one_more told found more here before further all joined is next sofar =
    ap (λ b. b || further) (joined ∙ ap (λ b. told || b) is) ∙ or_assoc told here further ∙ ap (λ b. told || b) (sym next) ∙ sofar

-- one thing more is looked at
pub telling_more : (told found more : Flaws) (types : ObjectTypes) (here before further all : Flaw → Bool) → Joins told found more → Tells found types here → ((flaw : Flaw) → before flaw ≡ (here flaw || further flaw)) → Telling told types before all
    → Telling more types further all
telling_more told found more types here before further all joins tells next sofar = record {
  undeclared = one_more told.undeclared found.undeclared more.undeclared (here undeclared) _ _ _ joins.undeclared tells.undeclared (next undeclared) sofar.undeclared;
  dangling = one_more told.dangling found.dangling more.dangling (here (dangles types)) _ _ _ joins.dangling tells.dangling (next (dangles types)) sofar.dangling;
  stray = one_more told.stray found.stray more.stray (here (strays types)) _ _ _ joins.stray tells.stray (next (strays types)) sofar.stray;
  large = one_more told.large found.large more.large (here is_large) _ _ _ joins.large tells.large (next is_large) sofar.large;
}
