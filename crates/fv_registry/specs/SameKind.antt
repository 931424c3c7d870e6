-- The kinds of data.
use Rattle.std.specs.Prelude.{Bool, true, false}
use Rattle.fv_datum.specs.declared.kind.Kind.{Kind}
use Rattle.fv_datum.specs.declared.kind.Kind.TheVariants.{Text, Integer, Decimal, Boolean, Date, Instant, Ref, List, Map, Optional}

-- two kinds are the same
abbrev pub same_kind : Kind → Kind → Bool
same_kind Text Text = true
same_kind Integer Integer = true
same_kind Decimal Decimal = true
same_kind Boolean Boolean = true
same_kind Date Date = true
same_kind Instant Instant = true
same_kind Ref Ref = true
same_kind List List = true
same_kind Map Map = true
same_kind Optional Optional = true
same_kind _ _ = false
