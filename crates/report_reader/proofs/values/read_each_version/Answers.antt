use Rattle.session_known.specs.Form.{NamesSessions}
use Rattle.std.proofs.lemmas.List.Elements.{All-from_recursion, All-weaker}
use Rattle.version_antichain.specs.Versions.{IsVersions}
use Rattle.report_lines.proofs.NamesLemmas.{tells_names}
use Rattle.report_reader.specs.ReadValues.{IsVersionIn, AreVersionsIn}
use Rattle.report_reader.proofs.ReadRows.{all_pieces_read, no_piece, no_piece_place, no_piece_read, piece_read}
use Rattle.report_reader.proofs.ReadValueForms.{versions_row}
use Rattle.report_reader.proofs.values.read_each_version.Goals as goal

pub loop-piece-init : goal.loop-piece-init
loop-piece-init c = no_piece_read (rw c.deref-piece-items.ensures.value c.in_ok-pieces.ensures) c.new-versions.ensures

pub returns-in_default : goal.returns-in_default
returns-in_default c = no_piece _ c.loop-piece.invariant c.loop-piece-test.true c.in_ok-version.ensures (versions_row c.args.script.now (tells_names _ _ c.requires.1)) c.in_default.is

pub returns-then-not-branch : goal.returns-then-not-branch
returns-then-not-branch c =
    no_piece_place _ c.loop-piece.invariant c.loop-piece-test.true c.in_ok-version.ensures IsVersions _ _ (versions_row c.args.script.now (tells_names _ _ c.requires.1)) (λ versions are. are.0) c.in-Some.is c.in_ok-push.ensures.pushed c.if-not-branch.true

pub loop-piece-preserved : goal.loop-piece-preserved
loop-piece-preserved c = piece_read _ c.loop-piece.invariant c.loop-piece-test.true c.in_ok-version.ensures IsVersions _ c.in-Some.is c.in_ok-push.ensures.pushed c.if-not-branch.false

pub returns : goal.returns
returns c =
    all_pieces_read (AreVersionsIn c.args.script.now) c.loop-piece.invariant c.loop-piece-test.false
    (c.attest.ensures, All-weaker (IsVersionIn c.args.script.now) (λ version. NamesSessions c.args.script.now version.clock) (λ version is. is.1) c.loop-piece.versions (All-from_recursion (IsVersionIn c.args.script.now) c.loop-piece.versions c.loop-piece.invariant.are_read.are_items))
