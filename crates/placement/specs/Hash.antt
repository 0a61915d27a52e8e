-- The hash of keys and ring points: FNV-1a in 64 bits (Fowler, Noll, Vo).
use Rattle.std.specs.Prelude.{ℕ, ◌*◌, ◌%◌, ◌^◌, List, [], ◌∷◌, bit_xor}

-- the hash after more bytes: for each, exclusive or, then times the prime, modulo 2 ^ 64
abbrev pub hashed_on : ℕ → List ℕ → ℕ
hashed_on hash [] = hash
hashed_on hash (b ∷ bytes) = hashed_on ((bit_xor hash b * 1099511628211) % 2 ^ 64) bytes

abbrev pub hash_of : List ℕ → ℕ
hash_of bytes = hashed_on 14695981039346656037 bytes
