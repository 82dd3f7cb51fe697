-- What is wrong with a document, and where: the declared errors.
use Rattle.std.specs.Prelude.{ℕ, List, [], ◌∷◌, Result, Ok, Err, Option}
use Rattle.cdx_events.specs.declared.event.EventKind.{EventKind}
use Rattle.cdx_models.specs.declared.errors.XmlReadError.{XmlReadError}
use Rattle.cdx_models.specs.declared.errors.XmlReadError.TheVariants.{UnexpectedElementReadError, RequiredDataMissing, InvalidParseError, InvalidNamespaceError, TooDeep}
use Rattle.cdx_models.specs.declared.errors.Step.{Step}
use Rattle.cdx_models.specs.declared.errors.Step.TheVariants as steps
use Rattle.cdx_models.specs.declared.errors.JsonKind.{JsonKind}
use Rattle.cdx_models.specs.declared.errors.JsonKind.TheVariants as causes

-- ---- in JSON

abbrev pub to_member : List ℕ → Step
to_member name = steps.Member name

abbrev pub to_item : ℕ → Step
to_item i = steps.Item i

abbrev pub is_float : JsonKind
is_float = causes.Float

abbrev pub missing : JsonKind
missing = causes.Missing

abbrev pub wrong_kind : JsonKind
wrong_kind = causes.WrongKind

abbrev pub out_of_range : JsonKind
out_of_range = causes.OutOfRange

abbrev pub bad_format : JsonKind
bad_format = causes.BadFormat

abbrev pub bad_spec_version : JsonKind
bad_spec_version = causes.BadSpecVersion

abbrev pub too_deep : JsonKind
too_deep = causes.TooDeep

-- The path leads from the value that is read to the part that is wrong.
pub record JsonFault : Type 0 where
  pub path : List Step
  pub cause : JsonKind

-- What is read of a part, seen from the value around it.
abbrev pub under : {A : Type 0} → Step → Result A JsonFault → Result A JsonFault
under s (Ok x) = Ok x
under s (Err f) = Err (record { path = s ∷ f.path; cause = f.cause })

abbrev pub here : {A : Type 0} → JsonKind → Result A JsonFault
here c = Err (record { path = []; cause = c })

-- ---- in XML: a place is the number of an event

-- place, innermost open element, kind of the event
abbrev pub unexpected : ℕ → List ℕ → EventKind → XmlReadError
unexpected place element found = UnexpectedElementReadError place element found

-- place, element, attribute or child
abbrev pub lacking : ℕ → List ℕ → List ℕ → XmlReadError
lacking place element required_field = RequiredDataMissing place element required_field

-- place, element or attribute, text, data type
abbrev pub unreadable : ℕ → List ℕ → List ℕ → List ℕ → XmlReadError
unreadable place element value data_type = InvalidParseError place element value data_type

-- the namespace that was expected, and the one that was found
abbrev pub namespaced : List ℕ → Option (List ℕ) → XmlReadError
namespaced expected found = InvalidNamespaceError expected found

abbrev pub nested : ℕ → XmlReadError
nested place = TooDeep place
