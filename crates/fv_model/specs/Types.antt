-- The declared types, which stand in fv_bundle.
pub use Rattle.fv_bundle.specs.Types.{TypeUse, texts, integers, decimals, booleans, dates, instants, references, lists, maps, optionals, kind_of, nested, type_use_view, DeclaredFields, Declared, TextMap, use_view, fields_view, type_view, declared_view, is_unknown, unknown_type_in, has_unknown_type, has_large_type, has_deep, AreApart, FieldsApart, too_many, types_fault, number_of_type, name_at, fields_at}
