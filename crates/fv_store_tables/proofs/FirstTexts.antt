-- What the texts mean on the tables of version 1, and what the one that reads `about` means on either.
use Rattle.std.proofs.Common.{◌≡◌, ℕ, pos, List, [], ◌∷◌, codes, true, false, refl, lit≤}
use Rattle.sqlite.specs.Term.{Term, lit, col}
use Rattle.sqlite.specs.Schema.{Schema}
use Rattle.sqlite.specs.Query.{Query}
use Rattle.sqlite.specs.declared.types.Value.TheVariants.{Null, Int}
use Rattle.sqlite.specs.Command.TheVariants.{Select, DropTable}
use Rattle.sqlite_typing.specs.Types.{accepts_program}
use Rattle.sqlite_tied.specs.Compute.{everything}
use Rattle.sqlite.specs.Listing.{understood, reads_listing}
use Rattle.sqlite.proofs.Callers.{IsPlain, command_of}
use Rattle.fv_store_tables.specs.Tables.{store_schema}
use Rattle.fv_store_tables.specs.FirstTables.{old_schema}
use Rattle.fv_store_tables.specs.About.{about_query}
use Rattle.fv_store_tables.proofs.Texts.{IsWhole, RenewMeans, one_table}

-- ---- the row of `about`, under either schema

abbrev pub read_query : Query
read_query = one_table 0 [] (col 1 2 ∷ col 1 3 ∷ [])

-- it shows the version and the declarations, and is accepted
pub record ReadMeans (schema : Schema) : Type 0 where
  pub is : command_of (understood schema about_query) ≡ Select (record { lets = []; body = read_query }) (codes "version" ∷ codes "declarations" ∷ [])
  pub plain : IsPlain (understood schema about_query)
  pub whole : IsWhole about_query 0 (understood schema about_query)
  pub unlisted : reads_listing schema about_query ≡ false
  pub accepted : accepts_program schema [] read_query [] ≡ true

pub read_of_old : ReadMeans old_schema
unfolding understood everything
read_of_old = record { is = refl; plain = (refl, refl); whole = (lit≤ tt, refl); unlisted = refl; accepted = refl }

pub read_of_new : ReadMeans store_schema
unfolding understood everything
read_of_new = record { is = refl; plain = (refl, refl); whole = (lit≤ tt, refl); unlisted = refl; accepted = refl }

-- ---- version 1 is left

abbrev pub old_rows_text : List ℕ
old_rows_text = codes "SELECT id, form, bundle FROM record"

abbrev pub old_rows_query : Query
old_rows_query = one_table 1 [] (col 1 1 ∷ col 1 2 ∷ col 1 3 ∷ [])

pub old_rows_is : command_of (understood old_schema old_rows_text) ≡ Select (record { lets = []; body = old_rows_query }) (codes "id" ∷ codes "form" ∷ codes "bundle" ∷ [])
unfolding understood everything
old_rows_is = refl

pub old_rows_plain : IsPlain (understood old_schema old_rows_text)
unfolding understood everything
old_rows_plain = (refl, refl)

pub old_rows_whole : IsWhole old_rows_text 0 (understood old_schema old_rows_text)
unfolding understood everything
old_rows_whole = (lit≤ tt, refl)

pub old_rows_unlisted : reads_listing old_schema old_rows_text ≡ false
unfolding everything
old_rows_unlisted = refl

abbrev pub drop_record_text : List ℕ
drop_record_text = codes "DROP TABLE record"

pub drop_record_is : command_of (understood old_schema drop_record_text) ≡ DropTable 1
unfolding understood everything
drop_record_is = refl

pub drop_record_plain : IsPlain (understood old_schema drop_record_text)
unfolding understood everything
drop_record_plain = (refl, refl)

pub drop_record_whole : IsWhole drop_record_text 0 (understood old_schema drop_record_text)
unfolding understood everything
drop_record_whole = (lit≤ tt, refl)

abbrev pub version_terms : List Term
version_terms = col 1 0 ∷ col 1 0 ∷ lit Null ∷ lit (Int (pos 2)) ∷ col 1 3 ∷ []

abbrev pub version_text : List ℕ
version_text = codes "UPDATE about SET version = 2"

pub version_means : RenewMeans version_text version_terms []
unfolding understood everything
version_means = record { is = refl; plain = (refl, refl); whole = (lit≤ tt, refl); accepted = refl }
