-- The error of a road that the error of a reader is. Want of memory is told as what it is.
use Rattle.std.specs.Prelude.{Bool, true, false}
use Rattle.cdx_models.specs.declared.errors.JsonReadError.{JsonReadError}
use Rattle.cdx_models.specs.declared.errors.JsonReadError.TheVariants as in_json
use Rattle.cdx_models.specs.declared.errors.XmlReadError.{XmlReadError}
use Rattle.cdx_models.specs.declared.errors.XmlReadError.TheVariants as in_events
use Rattle.cdx_bom.specs.declared.doc.RoadError.{RoadError}
use Rattle.cdx_bom.specs.declared.doc.RoadError.TheVariants.{Json, Xml, Memory}

abbrev pub of_json_error : JsonReadError → RoadError
of_json_error (in_json.JsonElementReadError path kind) = Json (in_json.JsonElementReadError path kind)
of_json_error (in_json.BomError e) = Json (in_json.BomError e)
of_json_error (in_json.Memory m) = Memory m

abbrev pub is_memory : XmlReadError → Bool
is_memory (in_events.Memory m) = true
is_memory e = false

abbrev pub of_xml_error : XmlReadError → RoadError
of_xml_error (in_events.Memory m) = Memory m
of_xml_error e = Xml e
