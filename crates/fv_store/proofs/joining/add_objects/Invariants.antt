use Rattle.std.proofs.Common.{◌≡◌, ◌++◌, [], drop, string_bytes}
use denote.Text.{Utf8}
use denote.Shadow.{shadow}
use Rattle.fv_store.specs.Texts.{objects_text}
use Rattle.fv_store.proofs.joining.add_objects.Given as goal
use Rattle.fv_store_tables.specs.Stored.{things_view}

abbrev pub invariant-loop-object : goal.invariant-loop-object
invariant-loop-object l =
    shadow (Utf8 l.comma) × (string_bytes l.text ++ objects_text l.comma (things_view (drop l.object-index l.objects)) ≡ string_bytes l.initial.text ++ objects_text [] (things_view l.objects))
