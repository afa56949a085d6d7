use Rattle.std.proofs.Common.{◌≡◌, drop, flat_map, fold}
use Rattle.std.specs.Hash.{u8 as fed}
use Rattle.std.specs.Str.{str_to_ascii_lowercase}
use Rattle.ci_scopes.proofs.name.hash_lower.Given as goal

-- what is left to feed completes what is fed
abbrev pub invariant-loop-byte : goal.invariant-loop-byte
invariant-loop-byte g l =
    fold g.H.Hasher.write l.state (flat_map fed (str_to_ascii_lowercase (drop l.byte-index l.bytes)))
    ≡ fold g.H.Hasher.write l.initial.state (flat_map fed (str_to_ascii_lowercase l.bytes))
