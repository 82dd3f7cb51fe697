-- What is answered to a document that is refused.
use Rattle.std.specs.Prelude.{ℕ, List, codes, Option, Some, None}
use Rattle.serde_json.specs.Data.{unsigned, Data, string, object, Members, no_members, member}
use Rattle.serde_json.specs.Data as value
use Rattle.cdx_models.specs.declared.errors.JsonKind.{JsonKind}
use Rattle.cdx_models.specs.declared.errors.JsonKind.TheVariants as kinds
use Rattle.cdx_models.specs.declared.errors.XmlReadError.{XmlReadError}
use Rattle.cdx_models.specs.declared.errors.XmlReadError.TheVariants.{ElementReadError, UnexpectedElementReadError, RequiredDataMissing, RequiredAttributeMissing, InvalidParseError, InvalidNamespaceError, TooDeep, Memory}
use Rattle.cdx_models.specs.Path.{pointer}
use Rattle.cdx_schema.specs.Faults.{JsonFault}
use Rattle.cdx_schema.specs.Roads.{Refusal, of_json, of_xml, version_missing}

-- an object with this member alone
abbrev pub only : List ℕ → Data → Data
only name x = object (member name x no_members)

-- ---- members

abbrev pub a_text : List ℕ → List ℕ → Members → Members
a_text name s ms = member name (string s) ms

abbrev pub a_place : ℕ → Members
a_place n = member (codes "place") (value.number (unsigned n)) no_members

abbrev pub cause : List ℕ → Members → Members
cause s ms = a_text (codes "cause") s ms

-- ---- refusals: the members of each, in byte order

abbrev pub json_cause : JsonKind → List ℕ
json_cause kinds.Float = codes "float"
json_cause kinds.Missing = codes "missing"
json_cause kinds.WrongKind = codes "wrong kind"
json_cause kinds.OutOfRange = codes "out of range"
json_cause kinds.BadFormat = codes "bad format"
json_cause kinds.BadSpecVersion = codes "bad spec version"
json_cause kinds.TooDeep = codes "too deep"

-- the path as a JSON pointer
abbrev pub json_members : JsonFault → Members
json_members f = cause (json_cause f.cause) (a_text (codes "path") (pointer f.path) no_members)

abbrev pub namespace_members : List ℕ → Members
namespace_members expected = cause (codes "namespace") (a_text (codes "expected") expected (a_place 1))

abbrev pub with_actual : Option (List ℕ) → Members → Members
with_actual None ms = ms
with_actual (Some actual) ms = a_text (codes "actual") actual ms

-- No document has one of the faults that have no member here.
abbrev pub xml_members : XmlReadError → Members
xml_members (InvalidNamespaceError expected actual) = with_actual actual (namespace_members expected)
xml_members (UnexpectedElementReadError place element found) = cause (codes "unexpected") (a_text (codes "element") element (a_place place))
xml_members (RequiredDataMissing place element field) = cause (codes "missing") (a_text (codes "element") element (a_text (codes "field") field (a_place place)))
xml_members (InvalidParseError place element text type) = cause (codes "parse") (a_text (codes "element") element (member (codes "place") (value.number (unsigned place)) (a_text (codes "value") text no_members)))
xml_members (TooDeep place) = cause (codes "too deep") (a_place place)
xml_members (ElementReadError kind place) = no_members
xml_members (RequiredAttributeMissing place element attribute) = no_members
xml_members (Memory e) = no_members

abbrev pub refusal_members : Refusal → Members
refusal_members (of_json f) = json_members f
refusal_members (of_xml e) = xml_members e
refusal_members version_missing = cause (codes "version missing") no_members

abbrev pub unbalanced_members : ℕ → Members
unbalanced_members place = cause (codes "unbalanced") (a_place place)

-- the answer with these members
abbrev pub refused : Members → Data
refused ms = only (codes "refused") (object ms)

-- the answer to a document with this fault, or to one whose bill lacks a version
abbrev pub refusal_value : Refusal → Data
refusal_value r = refused (refusal_members r)

-- the answer to events that break at a place
abbrev pub imbalance_value : ℕ → Data
imbalance_value place = refused (unbalanced_members place)
