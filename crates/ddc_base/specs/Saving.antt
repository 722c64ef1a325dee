-- How a file of the host is saved, by what is at its path and by who saves. docs/reference/outside.md has this as a table.
use Rattle.std.specs.Prelude.{ℕ, Bool, ◌&&◌, ◌||◌, ◌==◌, not, if◌then◌else◌, bit_and}
use Rattle.ddc_base.specs.declared.ways.Maker.{Maker}
use Rattle.ddc_base.specs.declared.ways.Node.{Node}
use Rattle.ddc_base.specs.declared.ways.PlainFile.{PlainFile}
use Rattle.ddc_base.specs.declared.ways.Existing.{Existing}
use Rattle.ddc_base.specs.declared.ways.Existing.TheVariants.{Nothing, Plain, Link, Other}
use Rattle.ddc_base.specs.declared.ways.Way.{Way}
use Rattle.ddc_base.specs.declared.ways.Way.TheVariants.{AsNew, OwnersRights, SameFile, InPlace, Refused}

-- the mode's bits for the owner, for the group and all others, and setuid, setgid and sticky
abbrev pub owners_rights : ℕ
owners_rights = 0o700

abbrev pub others_rights : ℕ
others_rights = 0o077

abbrev pub special_bits : ℕ
special_bits = 0o7000

-- the mode that the file next to the path is created with: that of any new file if it replaces none, and otherwise one for its owner only
abbrev pub mode_beside : Existing → ℕ
mode_beside Nothing = 0o666
mode_beside (Plain _) = 0o600
mode_beside (Link _) = 0o600
mode_beside Other = 0o600

-- the part of an old file's mode that a new file takes
abbrev pub mode_kept : ℕ → ℕ
mode_kept mode = bit_and mode owners_rights

-- a regular file of this owner that has one name and no special bits, so that writing it changes nothing else
abbrev pub is_own_alone : PlainFile → Maker → Bool
is_own_alone file maker = (file.owner == maker.owner) && ((file.names == 1) && (bit_and file.mode special_bits == 0))

-- such a file that others have permissions on, in the group that a new file would have: the file itself keeps these permissions
abbrev pub comes_back : PlainFile → Maker → Bool
comes_back file maker = is_own_alone file maker && ((file.group == maker.group) && not (bit_and file.mode others_rights == 0))

-- a symbolic link is followed if its owner is this one or root (0)
abbrev pub is_followed : ℕ → Maker → Bool
is_followed owner maker = (owner == 0) || (owner == maker.owner)

-- how a file is saved
abbrev pub allowed_way : Existing → Maker → Way
allowed_way Nothing maker = AsNew
allowed_way (Plain file) maker = if comes_back file maker then SameFile else OwnersRights
allowed_way (Link owner) maker = if is_followed owner maker then InPlace else Refused
allowed_way Other maker = InPlace

-- two lookups found the same file
abbrev pub is_one_node : Node → Node → Bool
is_one_node first second = (first.device == second.device) && (first.number == second.number)
