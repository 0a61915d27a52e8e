use Rattle.std.proofs.Common.{◌≡◌, ℕ, ◌-◌, ◌<◌, List, [], length, map, get_or, set, refl, sym, ap, subst, ◌∙◌, arith}
use Rattle.std.specs.Vec.{with_item}
use Rattle.std.proofs.lemmas.Grind.{common_steps}
use Rattle.std.proofs.lemmas.List.{length-map, map-set, get_or-map, set-get_or}
use Rattle.std.proofs.lemmas.Result.{on_ok_weaker, on_err_weaker}
use Rattle.composed_value.specs.Cell.{PlainCell, empty_cell}
use Rattle.composed_value.specs.declared.kind.Kind.TheVariants.{Max}
use Rattle.placement.specs.Config.{IsOneOf}
use Rattle.anna_check.specs.Counted.{cell_at, with_cell}
use Rattle.anna_check.proofs.computed_cells.ComputedCells.count.Goals as goal

-- the cells that are seen once the cell of a key at a worker is written over
seen_after : {X : Type 0} (items : X → List PlainCell) (rows : List X) (row written : X) (cells : List (List PlainCell)) (key worker : ℕ) (cell : PlainCell) → map items rows ≡ cells → IsOneOf (length cells) key → row ≡ get_or rows (key - 1) row → items written ≡ set (items row) (worker - 1) cell
    → map items (set rows (key - 1) written) ≡ with_cell cells key worker cell
seen_after items rows row written cells key worker cell is key_is row_is written_is =
    let in_rows : key - 1 < length rows = omega (arith, key_is, sym (length-map rows items) ∙ ap length is) in
    let seen_row : items row ≡ get_or cells (key - 1) [] = ap items row_is ∙ sym (get_or-map items rows (key - 1) row [] in_rows) ∙ ap (λ cells. get_or cells (key - 1) []) is in
    map-set items rows (key - 1) written ∙ (λ i. set (is i) (key - 1) ((written_is ∙ ap (λ row. set row (worker - 1) cell) seen_row) i))

-- the cells with the cell of the key at the worker written over by itself
with_its_cell : (cells : List (List PlainCell)) (key worker : ℕ) → with_cell cells key worker (cell_at cells key worker) ≡ cells
with_its_cell cells key worker = ap (set cells (key - 1)) (set-get_or (get_or cells (key - 1) []) (worker - 1) (empty_cell Max)) ∙ set-get_or cells (key - 1) []

pub returns : goal.returns
returns c =
    let key_is : IsOneOf (length c.args.self.now) c.from.result = subst (IsOneOf (length c.args.self.now)) (sym c.from.ensures) c.requires.key in
    let written = with_item c.index_mut.result.now (c.from-2.result - 1) c.count.new.cell in
    let seen = seen_after (λ cells. cells.items) c.self.inside.by_key.items c.index_mut.result.now written c.args.self.now c.from.result c.from-2.result c.count.new.cell c.self.view_is key_is c.index_mut.ensures.value refl in
    let read : c.index_mut-cell.result.now ≡ cell_at c.args.self.now c.args.key c.args.worker = grind (arith, common_steps) in
    let with_read = λ (cell : PlainCell) (is : c.count.new.cell ≡ cell). seen ∙ (λ i. with_cell c.args.self.now (c.from.ensures i) (c.from-2.ensures i) (is i)) in
    record {
      ok = on_ok_weaker c.count.result (λ is. with_read _ is) c.count.ensures.ok;
      err = on_err_weaker c.count.result (λ is. with_read _ (is ∙ read) ∙ with_its_cell c.args.self.now c.args.key c.args.worker) c.count.ensures.err;
    }
