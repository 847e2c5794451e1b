-- What the walks by hand through raw memory cite of the logic and of std, by one path. Assumes `Logic`.
pub use Prim.Native.Nat.{suc, ℕ, ◌*◌, ◌+◌, ◌<◌, ◌^◌}
pub use Rattle.core.proofs.alloc.Calls.{Al, Goes-blank, second}
pub use Rattle.core.proofs.mem.Param.{El, elτ}
pub use Rattle.core.proofs.slots.Leases.{block_align, block_size, block_ty, uncapped}
pub use Rattle.std.proofs.Common.{None}
pub use Rattle.std.proofs.RcSteps.{word, word-Good}
pub use Rattle.std.proofs.VecSteps.Shapes.{after}
pub use Rattle.std.proofs.raw_atomic.Walks.{leaves, proved_at}
pub use Rattle.std.specs.Mem.{type_size}
pub use Rattle.std.specs.Prelude.{IsSome}
pub use Rattle.std.specs.Vec.Ownership.{FitsInBlock}
pub use Rattle.std.specs.contracts.impls.GlobalAllocator.TheImpl.{ghosts}
pub use Rattle.std_alloc.proofs.RawLayout.{as_raw, as_written}
pub use base.Fml.{Fml, Incl-trans, Lft, Share, fat, fbor, flft, fobs, froom, ftrue}
pub use base.Fraction.{full_share}
pub use base.Logic.{SProp, emp, ent, fst∗, id⊢, never, sep, via}
pub use borrow.Table.OneValue.{part_out}
pub use contract.BorrowLft.{◌⊑◌}
pub use contract.Monad.{Fun, fact, fact_i}
pub use contract.Running.{tables}
pub use denote.Builtin.{RefOf, usize}
pub use denote.Exit.{no, yes}
pub use denote.Memory.{hidden_shr, lone, mem, part_at}
pub use denote.Param.{layout, param}
pub use denote.Param.Laws.{Laws, param_laws}
pub use denote.RattleType.{RattleType, owns}
pub use denote.RawPtr.{InBlock, Ptr, block_ptr, count_of, in_a_block, lies_at, null_ptr, ptr_val, room_for}
pub use denote.Ref.{Bor, MutRef, ShrRef}
pub use denote.Shadow.{pure_i}
pub use denote.Signature.{plain}
pub use denote.Steps.{closes, heard, nothing, opens}
pub use denote.Struct.Lending.{lent_at}
pub use denote.Struct.Owning.{shape}
pub use denote.Struct.Struct.{Struct}
pub use denote.Triple.Clauses.{Clauses, Ended, closing}
pub use denote.Triple.Entry.{alive, on_entry}
pub use denote.Triple.Spec.{Meets, triple_of}
pub use denote.Triple.Statement.{Triple}
pub use denote.Triple.Table.{entered}
pub use denote.Triple.Walked.{Goes-dropped, Goes-ref, Stays, Walks, ends_at, needs, says, stay_dropped, stay_ref, walk_Meets, walk_of}
pub use denote.Triple.Walked.{walked}
pub use lib.Dec.{T}
pub use mathlib.Core.Bool.{false, true}
pub use mathlib.Core.List.{List, [], ◌++◌, ◌∷◌}
pub use mathlib.Core.Path.{ap, refl, subst, sym, ◌∙◌, ◌≡◌}
pub use mir.MapTy.{inst_fn}
pub use mir.Raw.{raw as bare}
pub use mir.Syntax.{Fn, Ty, named, ty_array, w64}
pub use mir.Val.{Val, WT, has_ty, of_list, vcons, vint, vnil, vptr, vstruct, vunit}
pub use native.Mathlib.Nat.{suc-mul}
pub use native.Mathlib.Omega.{arith}
pub use prog.Capped.{capped_fits}
pub use prog.Memory.{Memory, align, capped}
pub use prog.Routine.{Routine}
pub use prog.Wp.{Calls, Env, Loops, Tables, WpFn}
pub use seplogic.Ra.Ura.{Ura}
pub use sound.WpLaws.{FmC, WpFn-mono, fm_of}
pub use types.ByLocal.{alloc_all, env, free_all, get, get_in, give_at, is, look_at, look_in_at, pass_all, sets, sets_last, take_at, through}
pub use types.Kit.{ !, Goal, Item, Seq, Step, at_ret, await, by, done, drop, feq_i, feq_l, fjoin, fjoin3, flt_i, flt_l, fpack, fpick, frame}
pub use types.Kit.{fsplit, fsplit3, given, group, join, keep, later, learn, move, pick, prop, qed, raw, rewrite, some, split, step}
pub use types.Kit.{suffices, use0, use1, use2, ‵, ⋆, ◌$◌, ◌∵◌, ◌⊛◌}
pub use types.Logic.{Logic, sem}
pub use types.Part.{agg, sub, whole}
pub use types.Run.{addr, align_word, and_then, bin, blocks, enter, exec, first, fld, from, hop, no_more, of_opd, returns, size_word, stop}
pub use types.Run.{unit_lit}
pub use types.SemTy.{Body as Borrowed}
