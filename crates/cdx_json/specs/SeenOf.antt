-- The members of an object that is read, one after another.
use Rattle.std.specs.Prelude.{List, [], ◌∷◌}
use Rattle.serde_json.specs.Data.{Members, no_members, member}
use Rattle.serde_json.specs.View.{view}
use Rattle.cdx_json.specs.declared.seen_member.SeenMember.{SeenMember}

-- the object with these members
abbrev pub seen_of : List SeenMember → Members
seen_of [] = no_members
seen_of (m ∷ ms) = member m.name.now (view m.value.now) (seen_of ms)
