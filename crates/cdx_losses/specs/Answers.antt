-- What a report of losses answers, as a value.
use Rattle.std.specs.Prelude.{ℕ, List, map, codes}
use Rattle.serde_json.specs.Data.{Data, string, array, object, no_members, put}
use Rattle.serde_json.specs.View.{items_of}
use Rattle.cdx_models.specs.Path.{pointer}
use Rattle.cdx_request.specs.Refusals.{only}
use Rattle.cdx_ways.specs.Ways.{At}
use Rattle.cdx_losses.specs.declared.loss.Reason.{Reason}
use Rattle.cdx_losses.specs.declared.loss.Reason.TheVariants.{Version, Tools, Flow, Xml}

abbrev pub reason_word : Reason → List ℕ
reason_word Version = codes "version"
reason_word Tools = codes "tools"
reason_word Flow = codes "flow"
reason_word Xml = codes "xml"

abbrev pub loss_value : At Reason → Data
loss_value x = object (put (codes "path") (string (pointer x.0)) (put (codes "reason") (string (reason_word x.1)) no_members))

abbrev pub losses_answer : List (At Reason) → Data
losses_answer xs = only (codes "losses") (array (items_of (map loss_value xs)))
