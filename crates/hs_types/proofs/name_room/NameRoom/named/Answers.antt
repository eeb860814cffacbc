use Rattle.std.proofs.Common.{rules}
use Rattle.hs_types.proofs.HashNames.{hashed, ten_digits}
use Rattle.hs_types.proofs.name_room.NameRoom.named.Goals as goal

pub unwrap-requires-2 : goal.unwrap-requires-2
unwrap-requires-2 c = let t = ten_digits c.args.k c.requires in search rules

pub returns : goal.returns
returns c = let t = hashed c.args.k c.requires in search rules
