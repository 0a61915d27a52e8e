-- The first words of lines.
use Rattle.std.specs.Prelude.{ℕ, Bool, true, false, if◌then◌else◌, List, codes}
use Rattle.std.specs.Str.{bytes_eq}
use Rattle.script_reader.specs.declared.keyword.Keyword.{Keyword}
use Rattle.script_reader.specs.declared.keyword.Keyword.TheVariants.{Anna, Workers, Factor, Round, Key, Session, Put, Get, Await, Begin, Commit, Abort, End, Unknown}

-- the keyword that a word spells; any other word is unknown
abbrev pub keyword_of : List ℕ → Keyword
keyword_of word =
    if bytes_eq word (codes "anna") then Anna else
    (if bytes_eq word (codes "workers") then Workers else
    (if bytes_eq word (codes "factor") then Factor else
    (if bytes_eq word (codes "round") then Round else
    (if bytes_eq word (codes "key") then Key else
    (if bytes_eq word (codes "session") then Session else
    (if bytes_eq word (codes "put") then Put else
    (if bytes_eq word (codes "get") then Get else
    (if bytes_eq word (codes "await") then Await else
    (if bytes_eq word (codes "begin") then Begin else
    (if bytes_eq word (codes "commit") then Commit else
    (if bytes_eq word (codes "abort") then Abort else
    (if bytes_eq word (codes "end") then End else Unknown))))))))))))

abbrev pub is_factor : Keyword → Bool
is_factor Factor = true
is_factor keyword = false

abbrev pub is_round : Keyword → Bool
is_round Round = true
is_round keyword = false

abbrev pub is_key : Keyword → Bool
is_key Key = true
is_key keyword = false

abbrev pub is_session : Keyword → Bool
is_session Session = true
is_session keyword = false

abbrev pub is_end : Keyword → Bool
is_end End = true
is_end keyword = false

-- the lines of a session
abbrev pub is_command : Keyword → Bool
is_command Put = true
is_command Get = true
is_command Await = true
is_command Begin = true
is_command Commit = true
is_command Abort = true
is_command keyword = false

abbrev pub is_begin : Keyword → Bool
is_begin Begin = true
is_begin keyword = false

-- what begins or ends a transaction
abbrev pub is_boundary : Keyword → Bool
is_boundary Begin = true
is_boundary Commit = true
is_boundary Abort = true
is_boundary keyword = false
