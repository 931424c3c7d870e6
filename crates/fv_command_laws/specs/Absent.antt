-- What a refusal for what isn't there says of a command, and of a part of a batch.
use Rattle.std.specs.Prelude.{None}
use Rattle.fv_command_fault.specs.Named.{IsStored}
use Rattle.fv_command_fault.specs.Whereabouts.{IsAt}
use Rattle.fv_command_fault.specs.declared.place.Absence.{Absence}
use Rattle.fv_command_fault.specs.declared.place.Absence.TheVariants as absence
use Rattle.fv_command_fault.specs.declared.place.CommandPlace.{CommandPlace}
use Rattle.fv_declare_schema.specs.Declarations.{Declarations}
use Rattle.fv_engine_command.specs.Commands.{Part, Request, alone}
use Rattle.fv_engine_reply.specs.declared.answer.Refusal.{Refusal}
use Rattle.fv_engine_reply.specs.declared.answer.Refusal.TheVariants.{UnknownForm, NoRecord, UnknownGroup, NoSuchField}
use Rattle.fv_store.specs.Records.{Records}

-- the refusal of a request for what isn't there
abbrev pub refusal_of : Absence → Refusal
refusal_of absence.Form = UnknownForm
refusal_of absence.Record = NoRecord
refusal_of absence.Group = UnknownGroup
refusal_of absence.Field = NoSuchField

-- a request names at some member what isn't there
abbrev pub IsSomewhere : Declarations → Records → Request → Absence → Type 0
IsSomewhere ds m r w = (p : CommandPlace) × IsAt ds m r w p

-- a part by itself names what isn't there, of records in which there is none at the id that it needs
pub record IsPart (ds : Declarations) (m : Records) (p : Part) (w : Absence) : Type 0 where
  pub place : CommandPlace
  pub there : IsAt ds m (alone p) w place
  pub stored : IsStored m (alone p) None
