-- The root of a document, and what a reader of it answers.
use Rattle.std.proofs.Common.{◌≡◌, List, Result, Ok, Err, ap, ◌∙◌}
use Rattle.cdx_events.specs.declared.name.OwnedName.{OwnedName}
use Rattle.cdx_events.specs.declared.name.OwnedAttribute.{OwnedAttribute}
use Rattle.cdx_events.specs.declared.name.Namespace.{Namespace}
use Rattle.cdx_events.specs.Cursor.{Cursor}
use Rattle.cdx_events.specs.Nodes.{Node, Nodes, characters, cdata, element, document}
use Rattle.cdx_events.proofs.RootLaws.{one_root}
use Rattle.cdx_models.specs.declared.errors.XmlReadError.TheVariants.{ElementReadError, UnexpectedElementReadError, RequiredDataMissing, RequiredAttributeMissing, InvalidParseError, InvalidNamespaceError, TooDeep, Memory}
use Rattle.cdx_models.specs.declared.errors.XmlReadError.{XmlReadError}
use Rattle.cdx_models.specs.Trees.{Tree}
use Rattle.cdx_leaf.specs.Fault.{Denotes}
use Rattle.cdx_leaf.specs.Reading.{Reads}

-- a document is that of one element
pub same_root : (root : Node) (n : OwnedName) (a : List OwnedAttribute) (ns : Namespace) (nodes : Nodes) → document (element n a ns nodes) ≡ document root → element n a ns nodes ≡ root
same_root (characters t) n a ns nodes e = absurd cc
same_root (cdata t) n a ns nodes e = absurd cc
same_root (element m b ms others) n a ns nodes e =
    let q = one_root n m a b ns ms nodes others e in
    ap (λ x. element x a ns nodes) q.0 ∙ ap (λ x. element m x ns nodes) q.1 ∙ ap (λ x. element m b x nodes) q.2 ∙ ap (λ x. element m b ms x) q.3

-- What a reader answers is what is denoted, wherever the reader stands.
pub denotes_read : {X : Type 0} (view : X → Tree) (old new end : Cursor) (denoted : Result Tree XmlReadError) (r : Result X XmlReadError) → Reads view old new end denoted r → Denotes view denoted r
denotes_read view old new end denoted (Ok x) h = h.0
denotes_read view old new end denoted (Err (Memory m)) h = record {}
denotes_read view old new end denoted (Err (ElementReadError k p)) h = h.1.0
denotes_read view old new end denoted (Err (UnexpectedElementReadError p el k)) h = h.1.0
denotes_read view old new end denoted (Err (RequiredDataMissing p el k)) h = h.1.0
denotes_read view old new end denoted (Err (RequiredAttributeMissing p el k)) h = h.1.0
denotes_read view old new end denoted (Err (InvalidParseError p el k t)) h = h.1.0
denotes_read view old new end denoted (Err (InvalidNamespaceError x y)) h = h.1.0
denotes_read view old new end denoted (Err (TooDeep p)) h = h.1.0
