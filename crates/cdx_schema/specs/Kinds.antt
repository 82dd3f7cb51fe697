-- The kinds of values that a bill's fields hold, and the rows of the schema.
use Rattle.std.specs.Prelude.{ℕ, List, Option}
use Rattle.cdx_models.specs.declared.bom.SpecVersion.{SpecVersion}
use Rattle.cdx_models.specs.Trees.{Name}

-- The kinds of lists.
pub data Lists : Type 0 where
  hashes properties urls contacts commits patches resolved links : Lists
  external_references dependencies depended compositions : Lists
  assemblies composed vulnerabilities licenses components services : Lists
  copyright_texts endpoints authors tool_list signer_list chain_list : Lists
  classifications flows : Lists

pub data Kind : Type 0 where
  -- a text, a boolean, a number below 2 ^ 32
  a_text a_boolean a_number : Kind
  -- the label of a bill
  a_version : Kind
  a_list : Lists → Kind
  a_record : Name → Kind
  -- a text: in XML an element with the one attribute `ref`
  a_reference : Kind
  -- a license or an expression; an SPDX id or a license name
  a_license_choice a_license_identifier : Kind
  -- a list of tools, or an object of services and components
  a_tools : Kind
  -- a list of entries; an entry is a classification, or a service data with a name or a description
  a_data an_entry : Kind
  -- signers, a chain, or a single signer
  a_signature : Kind
  a_bill : Kind

-- What an unknown child or a text between children is:
--   lax       an unknown child is skipped, a text is refused
--   strict    both are refused
--   passing   both are skipped
pub data Rule : Type 0 where
  lax strict passing : Rule

-- How a field stands in XML.
pub data Spelled : Type 0 where
  -- an attribute
  attribute : List ℕ → Spelled
  -- an attribute that stands for this number where it isn't there
  attribute_or : List ℕ → ℕ → Spelled
  -- the content of the element: any text; exactly one text; a text that is written as CData
  content one_text as_cdata : Spelled
  -- a child; the last of several counts
  child : List ℕ → Spelled
  -- a child that is written only where it has a child itself
  filled_child : List ℕ → Spelled
  -- children, all of which count
  children : List ℕ → Spelled
  -- one child of either name, and no second one
  either_child : List ℕ → List ℕ → Spelled
  -- nothing: it is the version of the document
  the_version : Spelled

-- How a field stands in JSON.
pub data Member : Type 0 where
  -- a member of the record's object
  member : List ℕ → Member
  -- its own members stand among those of the record's object
  merged : Member

-- Whether a field has to be there.
--   else_empty   where it isn't there, it is the empty list
pub data Need : Type 0 where
  optional required required_first else_empty : Need

pub record Row : Type 0 where
  pub kind : Kind
  pub xml : Spelled
  pub json : Member
  -- the name that the member has in old documents, which are still read
  pub old_name : Option (List ℕ)
  -- the first version that knows the row
  pub since : SpecVersion
  pub need : Need

-- A list's items in XML: the name and the kind of each, and the rule for what else is met.
pub record Listed : Type 0 where
  pub name : List ℕ
  pub kind : Kind
  pub rule : Rule
