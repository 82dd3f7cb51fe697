-- What is read of an object of one member.
use Rattle.std.specs.Prelude.{ℕ, List, Option, Some, None}
use Rattle.serde_json.specs.Data.{Data, object, no_members, member}

-- the name and the value of the only member of an object
abbrev pub lone_member : Data → Option (List ℕ × Data)
lone_member (object (member k d no_members)) = Some (k, d)
lone_member _ = None
