-- Signatures as elements.
use Rattle.std.proofs.Common.{◌≡◌, ℕ, List, [], ◌∷◌, ◌++◌, codes, refl, sym, ap, ◌∙◌}
use Rattle.std.proofs.lemmas.List.{append-nil}
use Rattle.cdx_events.specs.Nodes.{Nodes, no_nodes, node, events_of}
use Rattle.cdx_models.specs.declared.bom.SpecVersion.{SpecVersion}
use Rattle.cdx_models.specs.declared.bom.SpecVersion.TheVariants.{V1_3, V1_4, V1_5}
use Rattle.cdx_models.specs.Trees.{signer, signers, chain, items, fields, Trees, one}
use Rattle.cdx_schema.specs.Kinds.{a_record, a_list, a_signature, signer_list, chain_list}
use Rattle.cdx_schema.specs.Nodes.{◌⊕◌}
use Rattle.cdx_schema.specs.Table.{rows}
use Rattle.cdx_schema.specs.Keeping.{kept}
use Rattle.cdx_schema.specs.XmlSpelling.{plain_element, nodes_of}
use Rattle.cdx_write.specs.Spelling.{spelled_events}
use Rattle.cdx_write.specs.Writing.{start_tag, end_tag}

no_more_nodes : (xs : Nodes) → xs ⊕ no_nodes ≡ xs
no_more_nodes no_nodes = refl
no_more_nodes (node x xs) = ap (node x) (no_more_nodes xs)

in_another : (tag name : List ℕ) (xs : Nodes) → start_tag tag ∷ events_of (plain_element name [] xs) ++ end_tag tag ∷ [] ≡ start_tag tag ∷ (events_of (plain_element name [] (xs ⊕ no_nodes)) ++ []) ++ end_tag tag ∷ []
in_another tag name xs =
    ap (λ ys. start_tag tag ∷ events_of (plain_element name [] ys) ++ end_tag tag ∷ []) (sym (no_more_nodes xs))
    ∙ ap (λ s. start_tag tag ∷ s ++ end_tag tag ∷ []) (sym (append-nil (events_of (plain_element name [] (xs ⊕ no_nodes)))))

pub single_signature : (ts : Trees) (w : SpecVersion) (tag : List ℕ) → spelled_events (fields signer ts) w tag (a_record signer) ≡ spelled_events (fields signer ts) w tag a_signature
unfolding spelled_events kept nodes_of
single_signature ts V1_3 tag = refl
single_signature ts V1_4 tag = refl
single_signature ts V1_5 tag = refl

pub signers_signature : (ts : Trees) (w : SpecVersion) (tag : List ℕ) → start_tag tag ∷ spelled_events (items ts) w (codes "signers") (a_list signer_list) ++ end_tag tag ∷ [] ≡ spelled_events (fields signers (one (items ts))) w tag a_signature
unfolding spelled_events kept nodes_of rows
signers_signature ts V1_3 tag = in_another tag (codes "signers") _
signers_signature ts V1_4 tag = in_another tag (codes "signers") _
signers_signature ts V1_5 tag = in_another tag (codes "signers") _

pub chain_signature : (ts : Trees) (w : SpecVersion) (tag : List ℕ) → start_tag tag ∷ spelled_events (items ts) w (codes "chain") (a_list chain_list) ++ end_tag tag ∷ [] ≡ spelled_events (fields chain (one (items ts))) w tag a_signature
unfolding spelled_events kept nodes_of rows
chain_signature ts V1_3 tag = in_another tag (codes "chain") _
chain_signature ts V1_4 tag = in_another tag (codes "chain") _
chain_signature ts V1_5 tag = in_another tag (codes "chain") _
