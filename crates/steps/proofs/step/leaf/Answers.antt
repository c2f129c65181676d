-- `steps::step::leaf` meets its contract: each arm by the law of its sign.
use mathlib.Core.Path.{sym}
use native.Mathlib.Omega.{arith}
use Rattle.positions.specs.Positions.{holds}
use Rattle.tables.specs.Tables.{row_holds}
use Rattle.grammar.proofs.Spread.{within}
use Rattle.runs.proofs.Leaf.{act_number, undo_number, sum_act_here, sum_undo_here, act_found, undo_found, next_found, sum_act_found, sum_undo_found, prev_found}
use Rattle.steps.proofs.step.leaf.Goals as goal

pub bounds-text-at : goal.bounds-text-at
bounds-text-at c = within c.requires.stands

pub overflow_add-name : goal.overflow_add-name
overflow_add-name c = omega (arith, within c.requires.stands)

pub row-over-requires : goal.row-over-requires
row-over-requires c = (act_number c.requires c.in-97.is, omega arith)

pub row-over-requires-in-114 : goal.row-over-requires-in-114
row-over-requires-in-114 c = (undo_number c.requires c.in-114.is, omega arith)

pub sum_row-over-requires : goal.sum_row-over-requires
sum_row-over-requires c = (sum_act_here c.requires c.in-98.is, omega arith)

pub sum_row-over-requires-in-115 : goal.sum_row-over-requires-in-115
sum_row-over-requires-in-115 c = (sum_undo_here c.requires c.in-115.is, omega arith)

pub returns-in-97 : goal.returns-in-97
returns-in-97 c = act_found (holds c.row-over.result) c.in-97.is c.row-over.ensures c.cross.ensures

pub returns-in-114 : goal.returns-in-114
returns-in-114 c = undo_found (holds c.row-over-in-114.result) c.in-114.is c.row-over-in-114.ensures c.cross-in-114.ensures

pub returns-in-110 : goal.returns-in-110
unfolding row_holds
returns-in-110 c =
    let ahead = c.of_word-ahead in
    next_found (holds ahead.result) c.in-110.is (λ q. sym (ahead.ensures.bits q)) c.cross-in-110.ensures

pub returns-in-98 : goal.returns-in-98
returns-in-98 c = sum_act_found (holds c.sum_row-over.result) c.in-98.is c.sum_row-over.ensures c.cross-in-98.ensures

pub returns-in-115 : goal.returns-in-115
returns-in-115 c = sum_undo_found (holds c.sum_row-over-in-115.result) c.in-115.is c.sum_row-over-in-115.ensures c.cross-in-115.ensures

pub returns-in_default : goal.returns-in_default
unfolding row_holds
returns-in_default c =
    let behind = c.of_word-behind in
    let none = c.in_default.in_default-own.rest in
    prev_found (holds behind.result) none.0.0.0.0.1 none.0.0.0.1 none.0.0.1 none.0.1 none.1 (λ q. sym (behind.ensures.bits q)) c.cross-in_default.ensures
