-- What is refused, as less is asked of the fault.
use Rattle.std.proofs.Common.{◌≡◌, ℕ, List, Option, None, Ok, Err, Result, inl, inr, refl}
use Rattle.fv_datum.specs.Parsing.{json_of}
use Rattle.fv_declare_judging.specs.Declares.{Declares}
use Rattle.fv_declare_judging.specs.declared.fault.DeclFault.{DeclFault}
use Rattle.fv_declare_schema.specs.Declarations.{Declarations}
use Rattle.fv_registry.specs.Rules.{Known}
use Rattle.formd_words.specs.declared.failure.Failure.{Failure}
use Rattle.formd_words.specs.declared.failure.Failure.TheVariants as failure
use Rattle.fv_json_schema.specs.declared.bundle.SchemaFault.{SchemaFault}
use Rattle.fv_json_schema.specs.declared.bundle.SchemaFault.TheVariants as schema
use Rattle.formd_words.specs.Failures.{IsRefused, IsRefusedForForm, schema_failure}

pub refused_weaker : {A B : DeclFault → Type 0} {broke other : Type 0} → ((f : DeclFault) → A f → B f) → (broke → other) → (told : Failure) → IsRefused A broke told → IsRefused B other told
refused_weaker less fewer (failure.Declarations f) so = less f so
refused_weaker less fewer failure.Write so = fewer so
refused_weaker less fewer failure.Memory so = tt
refused_weaker less fewer failure.NotUtf8 so = absurd so
refused_weaker less fewer failure.Unreadable so = absurd so
refused_weaker less fewer failure.CannotOpen so = absurd so
refused_weaker less fewer failure.UnknownForm so = absurd so
refused_weaker less fewer (failure.Store f) so = absurd so
refused_weaker less fewer failure.Read so = absurd so

-- what is declared by a text is declared in JSON
pub declared_in_json : (k : Known) (bytes : List ℕ) (ds : Declarations) → Declares k bytes (Ok ds) → json_of bytes ≡ None → ⊥
unfolding Declares
declared_in_json k bytes ds (inl told) none = let never = told.1 in cc
declared_in_json k bytes ds (inr rest) none = rest.0 none

pub refused_for_form : {A B : DeclFault → Type 0} {broke other : Type 0} (unknown : Type 0) → ((f : DeclFault) → A f → B f) → (broke → other) → (told : Failure) → IsRefused A broke told → IsRefusedForForm B unknown other told
refused_for_form unknown less fewer (failure.Declarations f) so = less f so
refused_for_form unknown less fewer failure.Write so = fewer so
refused_for_form unknown less fewer failure.Memory so = tt
refused_for_form unknown less fewer failure.NotUtf8 so = absurd so
refused_for_form unknown less fewer failure.Unreadable so = absurd so
refused_for_form unknown less fewer failure.CannotOpen so = absurd so
refused_for_form unknown less fewer failure.UnknownForm so = absurd so
refused_for_form unknown less fewer (failure.Store f) so = absurd so
refused_for_form unknown less fewer failure.Read so = absurd so

-- a schema that isn't made
pub schema_failed : (A : DeclFault → Type 0) (unknown broke : Type 0) (f : SchemaFault) (told : Failure) → told ≡ schema_failure f → (f ≡ schema.UnknownForm → unknown) → IsRefusedForForm A unknown broke told
schema_failed A unknown broke schema.UnknownForm told is h = rw is (h refl)
schema_failed A unknown broke schema.Memory told is h = rw is tt
