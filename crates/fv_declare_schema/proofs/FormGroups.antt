-- Groups of forms are declared.
use Rattle.std.proofs.Common.{ℕ, List, [], ◌∷◌, Bool, true, false, cond, Some, bytes_eq}
use Rattle.std.specs.List.{AllByRecursion}
use Rattle.std.specs.Option.{IfSome}
use Rattle.fv_datum.specs.Lookup.{at_name}
use Rattle.fv_declare_schema.specs.Groups.{Groups}
use Rattle.fv_declare_schema.specs.Ordered.{AreGroups}

-- the groups of one form
pub form_within : (gs : Groups) (name : List ℕ) (fs : List (List ℕ × List ℕ)) → AllByRecursion (λ f. AreGroups gs f.1) fs → IfSome (at_name name fs) (AreGroups gs)
form_within gs name [] all = tt
form_within gs name (f ∷ fs) all = go (bytes_eq name f.0) (form_within gs name fs all.1)
  where
    go : (b : Bool) → IfSome (at_name name fs) (AreGroups gs) → IfSome (cond b (Some f.1) (at_name name fs)) (AreGroups gs)
    go true rest = all.0
    go false rest = rest
