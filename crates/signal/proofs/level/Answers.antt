-- `level` meets its contract, by the mode.
use native.Mathlib.Omega.{arith}
use Rattle.alphabet.specs.declared.Mode.TheVariants.{Baudot45, Baudot50, Dtmf, Edt}
use Rattle.signal.proofs.Levels.{code-in, ms-in, level-45, level-50, level-dtmf, level-edt}
use Rattle.signal.proofs.level.Goals as goal

pub baudot_frame-requires : goal.baudot_frame-requires
baudot_frame-requires c =
    code-in c.args.mode c.args.code.0 c.args.at c.requires.code_bound c.requires.at_bound Baudot45 c.in-Baudot45.is

pub frame_level-requires : goal.frame_level-requires
frame_level-requires c =
    let h = ms-in c.args.mode c.args.code.0 c.args.at c.requires.code_bound c.requires.at_bound Baudot45
    c.in-Baudot45.is in
    omega arith

pub baudot_frame-requires-in-Baudot50 : goal.baudot_frame-requires-in-Baudot50
baudot_frame-requires-in-Baudot50 c =
    code-in c.args.mode c.args.code.0 c.args.at c.requires.code_bound c.requires.at_bound Baudot50 c.in-Baudot50.is

pub frame_level-requires-in-Baudot50 : goal.frame_level-requires-in-Baudot50
frame_level-requires-in-Baudot50 c =
    let h = ms-in c.args.mode c.args.code.0 c.args.at c.requires.code_bound c.requires.at_bound Baudot50
    c.in-Baudot50.is in
    omega arith

pub keys_level-requires : goal.keys_level-requires
keys_level-requires c =
    ms-in c.args.mode c.args.code.0 c.args.at c.requires.code_bound c.requires.at_bound Dtmf c.in-Dtmf.is

pub edt_frame-requires : goal.edt_frame-requires
edt_frame-requires c =
    code-in c.args.mode c.args.code.0 c.args.at c.requires.code_bound c.requires.at_bound Edt c.in-Edt.is

pub overflow_mul-at : goal.overflow_mul-at
overflow_mul-at c =
    let h = ms-in c.args.mode c.args.code.0 c.args.at c.requires.code_bound c.requires.at_bound Edt c.in-Edt.is in
    omega arith

pub frame_level-requires-in-Edt : goal.frame_level-requires-in-Edt
frame_level-requires-in-Edt c =
    let h = ms-in c.args.mode c.args.code.0 c.args.at c.requires.code_bound c.requires.at_bound Edt c.in-Edt.is in
    omega arith

pub returns-in-Baudot45 : goal.returns-in-Baudot45
returns-in-Baudot45 c =
    level-45 c.args.mode c.args.code.0 c.args.at c.requires.code_bound c.requires.at_bound _ _
    c.in-Baudot45.is c.baudot_frame.ensures c.frame_level.ensures

pub returns-in-Baudot50 : goal.returns-in-Baudot50
returns-in-Baudot50 c =
    level-50 c.args.mode c.args.code.0 c.args.at c.requires.code_bound c.requires.at_bound _ _
    c.in-Baudot50.is c.baudot_frame-in-Baudot50.ensures c.frame_level-in-Baudot50.ensures

pub returns-in-Dtmf : goal.returns-in-Dtmf
returns-in-Dtmf c =
    level-dtmf c.args.mode c.args.code.0 c.args.at c.requires.code_bound c.requires.at_bound _
    c.in-Dtmf.is c.keys_level.ensures

pub returns-in-Edt : goal.returns-in-Edt
returns-in-Edt c =
    level-edt c.args.mode c.args.code.0 c.args.at c.requires.code_bound c.requires.at_bound _ _
    c.in-Edt.is c.edt_frame.ensures c.frame_level-in-Edt.ensures
