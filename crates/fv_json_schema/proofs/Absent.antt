-- What is mapped is there where it was.
use Rattle.std.proofs.Common.{◌≡◌, Option, Some, None, option_map, refl, sym}

pub absent : {X Y : Type 0} (g : X → Y) (o : Option X) (x : Option Y) → option_map g o ≡ x → (o ≡ None → x ≡ None) × (x ≡ None → o ≡ None)
absent g None x is = ((λ e. sym is), (λ e. refl))
absent g (Some v) x is = ((λ e. cc), (λ none. cc))
