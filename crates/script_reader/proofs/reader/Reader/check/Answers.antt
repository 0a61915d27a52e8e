use Rattle.std.proofs.Common.{◌≡◌, ℕ, List, true, false, not, ◌&&◌, map, sym, ap, ◌∙◌}
use Rattle.script_reader.proofs.CommandLemmas.{and_here, and_there, header_stands, header_kept, unsuited}
use Rattle.script_reader.proofs.reader.Reader.check.Goals as goal
use Rattle.script_reader.proofs.reader.Reader.check.Goals.{else-not-self-via-then-not-self+else-not-is_header, else-not-self-via-else-not-self, then-not-suits-via-then-not-suits, then-not-suits-via-else-not-suits+then-not-is_in_version}
use Rattle.script_reader.specs.Faults.{level_of, suits, is_in_version, lacks_word}
use Rattle.script_reader.proofs.FaultsLaws.{code_header, code_word}
use Rattle.script_reader.specs.Reader.{so_far}

pub returns-then-not-is_header : goal.returns-then-not-is_header
returns-then-not-is_header c = code_header _ _ _ (λ i. not (c.if-not-self.true i) && not (sym c.if-not-is_header.ensures i))

pub returns-then-not-may_follow : goal.returns-then-not-may_follow
returns-then-not-may_follow c = elim c.else-not-self.branch [
  | else-not-self-via-then-not-self+else-not-is_header w ↦ code_word _ _ _ (header_stands _ _ (sym w.if-not-is_header.ensures)) (ap not (and_here _ _ (sym c.if-not-may_follow.ensures)))
  | else-not-self-via-else-not-self w ↦ code_word _ _ _ (header_kept _ _ w.if-not-self.false) (ap not (and_here _ _ (sym c.if-not-may_follow.ensures)))
]

pub returns-in_default : goal.returns-in_default
returns-in_default c = elim c.else-not-self.branch [
  | else-not-self-via-then-not-self+else-not-is_header w ↦ code_word _ _ _ (header_stands _ _ (sym w.if-not-is_header.ensures)) (ap not (and_there _ _ (and_here _ _ c.in_default.ensures)))
  | else-not-self-via-else-not-self w ↦ code_word _ _ _ (header_kept _ _ w.if-not-self.false) (ap not (and_there _ _ (and_here _ _ c.in_default.ensures)))
]

pub returns-then-not-suits : goal.returns-then-not-suits
returns-then-not-suits c =
    let words : List (List ℕ) = map (λ word. word.now) c.args.words.now in
    let fails : (suits (level_of (so_far c.args.self.now)) c.args.keyword words && is_in_version c.args.self.now.version c.args.keyword words) ≡ false =
    elim c.then-not-suits.branch [
      | then-not-suits-via-then-not-suits w ↦ and_here _ _ (ap (λ level. suits level c.args.keyword words) (sym c.level.ensures) ∙ sym w.if-not-suits.ensures)
      | then-not-suits-via-else-not-suits+then-not-is_in_version w ↦ and_there _ _ (sym w.if-not-is_in_version.ensures)
    ] in
    let word : lacks_word (so_far c.args.self.now) c.args.keyword words ≡ true = unsuited (so_far c.args.self.now) c.args.keyword words fails in
    elim c.else-not-self.branch [
      | else-not-self-via-then-not-self+else-not-is_header w ↦ code_word _ _ _ (header_stands _ _ (sym w.if-not-is_header.ensures)) word
      | else-not-self-via-else-not-self w ↦ code_word _ _ _ (header_kept _ _ w.if-not-self.false) word
    ]
