-- Lists of items of one kind.
use Rattle.std.specs.Prelude.{ℕ, suc, List, [], ◌∷◌, Result, Ok}
use Rattle.cdx_events.specs.declared.event.XmlEvent.{XmlEvent}
use Rattle.cdx_events.specs.declared.name.OwnedName.{OwnedName}
use Rattle.cdx_events.specs.Nodes.{Nodes}
use Rattle.cdx_events.specs.Cursor.{Cursor}
use Rattle.cdx_models.specs.declared.errors.XmlReadError.{XmlReadError}
use Rattle.cdx_models.specs.declared.bom.SpecVersion.{SpecVersion}
use Rattle.cdx_models.specs.declared.bom.SpecVersion.TheVariants.{V1_3}
use Rattle.cdx_models.specs.Trees.{Tree, absent, Trees, one, field, list_tree}
use Rattle.cdx_schema.specs.Results.{◌>>=◌}
use Rattle.cdx_schema.specs.Depth.{Depth}
use Rattle.cdx_schema.specs.Kinds.{Kind}
use Rattle.cdx_schema.specs.XmlReading.{Plan, all, list_of, nodes_read}
use Rattle.cdx_leaf.specs.declared.rule.Rule.{Rule}
use Rattle.cdx_leaf.specs.declared.taken.Taken.{Taken}
use Rattle.cdx_leaf.specs.Rules.{as_rule}
use Rattle.cdx_leaf.specs.Each.{each_node, plan_step}
use Rattle.cdx_leaf.specs.Children.{Took}
use Rattle.cdx_leaf.specs.Reading.{Stands, Reads, behind_end}
use Rattle.cdx_leaf.specs.Trees.{collected}

-- the items that were met so far
abbrev pub listing_slots : {X : Type 0} → (X → Tree) → List X → Trees
listing_slots f xs = one (collected f xs)

-- The children of this name are the items; the rule says what becomes of the rest.
abbrev pub listing_plan : Rule → List ℕ → Kind → Plan
listing_plan r inner K = record { rule = as_rule r; children = record { name = inner; since = V1_3; kind = K; field = 0; place = all } ∷ [] }

-- the list that the nodes of an element of this name are
abbrev pub items_denoted : Plan → List ℕ → SpecVersion → Depth → ℕ → Nodes → Result Tree XmlReadError
items_denoted plan el v d p nodes = nodes_read nodes plan el v d (suc p) (one absent) >>= λ ts. Ok (list_of (field 0 ts))

abbrev pub ReadsList : {X : Type 0} → (X → Tree) → Kind → (Depth → Depth) → Cursor → Cursor → SpecVersion → OwnedName → List ℕ → Rule → Result (List X) XmlReadError → Type 0
ReadsList tree K depth old new v n inner r result =
    (d : Depth) (p : ℕ) (nodes : Nodes) (rest : List XmlEvent) → Stands old n p nodes rest → Reads (list_tree tree) old new (behind_end old nodes rest) (items_denoted (listing_plan r inner K) n.local_name v (depth d) p nodes) result

-- The same, seen as the fields of a record of one row.
abbrev pub ReadsItems : {X : Type 0} → (X → Tree) → Kind → (Depth → Depth) → Cursor → Cursor → SpecVersion → OwnedName → List ℕ → Rule → Result (List X) XmlReadError → Type 0
ReadsItems tree K depth old new v n inner r result =
    (d : Depth) (p : ℕ) (nodes : Nodes) (rest : List XmlEvent) → Stands old n p nodes rest → Reads (listing_slots tree) old new (behind_end old nodes rest) (each_node (plan_step (listing_plan r inner K) v (depth d) n.local_name) nodes (suc p) (one absent)) result

-- A list was read into a field. The answer is always Read.
abbrev pub TakesList : Tree → Kind → (Depth → Depth) → Cursor → Cursor → SpecVersion → OwnedName → List ℕ → Rule → Result Taken XmlReadError → Type 0
TakesList now K depth old new v n inner r result =
    (d : Depth) (p : ℕ) (nodes : Nodes) (rest : List XmlEvent) → Stands old n p nodes rest → Took now old new (behind_end old nodes rest) (items_denoted (listing_plan r inner K) n.local_name v (depth d) p nodes) result
