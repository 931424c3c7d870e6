-- A constraint whose attributes and kind the constraint takes is refused for its pattern alone.
use Rattle.std.proofs.Common.{◌≡◌, Bool, true, false, not, Option, Some, None, is_some, Result, Err, refl, ap, true≢false}
use Rattle.fv_datum.specs.Attributes.{Attributes}
use Rattle.fv_datum.specs.declared.kind.Kind.{Kind}
use Rattle.fv_builtin.specs.Given.{Draft, ready, to_match, drafted, IsRead}
use Rattle.fv_builtin.specs.BuiltIns.{BuiltIn}
use Rattle.fv_builtin.specs.Table.{takes}
use Rattle.fv_builtin.specs.Views.{answer_view}
use Rattle.fv_builtin.specs.declared.builtin.Builtin.{Builtin}
use Rattle.fv_builtin.specs.declared.fault.BuiltinFault.{BuiltinFault}
use Rattle.fv_builtin.specs.declared.fault.BuiltinFault.TheVariants.{Attribute, UnexpectedType, BadPattern, Memory}
use Rattle.fv_builtin.specs.declared.name.BuiltinName.{BuiltinName}

-- no other cause
abbrev pub IsOther : BuiltinFault → Type 0
IsOther Attribute = Unit {0}
IsOther UnexpectedType = Unit {0}
IsOther _ = ⊥

unread : (o : Option Draft) (t : Bool) (e : BuiltinFault) → not (is_some o) ≡ false → not t ≡ false → IsOther e → IsRead o t (Err e) → ⊥
unread None t e p q other r = true≢false p
unread (Some d) false e p q other r = true≢false q
unread (Some (ready rule)) true e p q other r = cc
unread (Some (to_match s)) true Attribute p q other r = r
unread (Some (to_match s)) true UnexpectedType p q other r = r
unread (Some (to_match s)) true BadPattern p q other r = other
unread (Some (to_match s)) true Memory p q other r = other

pub not_other : (which : BuiltinName) (given : Attributes) (kind : Kind) (e : BuiltinFault) (answer : Result BuiltIn BuiltinFault) → is_some (drafted which given) ≡ true → takes which kind ≡ true → IsOther e
    → answer ≡ Err e → IsRead (drafted which given) (takes which kind) answer → ⊥
not_other which given kind e answer attributes taken other is r =
    let read : IsRead (drafted which given) (takes which kind) (Err e) = rw is at r in
    unread (drafted which given) (takes which kind) e (ap not attributes) (ap not taken) other read

-- the answer that the code's is
pub refused_as : (r : Result Builtin BuiltinFault) (e f : BuiltinFault) → r ≡ Err e → e ≡ f → answer_view r ≡ Err f
refused_as r e f is same = rw (is, same) refl
