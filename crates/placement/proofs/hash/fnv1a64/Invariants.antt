use Rattle.std.proofs.Common.{◌≡◌, drop}
use Rattle.placement.specs.Hash.{hashed_on, hash_of}
use Rattle.placement.proofs.hash.fnv1a64.Given as goal

-- hashing on over the rest of the bytes gives the hash of all
abbrev pub invariant-loop-byte : goal.invariant-loop-byte
invariant-loop-byte l = hashed_on l.hash (drop l.byte-index l.bytes) ≡ hash_of l.bytes
