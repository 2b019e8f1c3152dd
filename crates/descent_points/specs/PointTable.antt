-- The worked falls. checker/expectations writes this file, from document 02, item 4; it is never edited by hand.
use Rattle.std.specs.Prelude.{List, [], ◌∷◌}
use Rattle.descent_points.specs.DescentPoint.{DescentPoint, fall, landed, refused}

-- Dimension, mass, speed, height, budget; the states after every 200 steps before the end; whether the angle is above 60 degrees, the number of steps and the end
-- state. Or dimension, mass, speed, height, budget and the refusal. A state is the bits of its three numbers.
abbrev pub points : List DescentPoint
points =
    -- a few steps: with the last one of the budget, and with one fewer
    -- it ends with 24.8476 m/s forward, 0.489304 m/s down, 0.0122445 m fallen
    landed 1000 10000 2500 1 5 [] 0 5 (fall 0x4038_d8fd_4d0e_076d 0x3fdf_50c1_ecb6_9642 0x3f89_13aa_3e27_0296)
    ∷ refused 1000 10000 2500 1 4 18
    -- from 120 m
    -- it ends with 17.7757 m/s forward, 42.6187 m/s down, 120.342 m fallen
    ∷ landed 1000 25000 2500 12000 20000 (fall 0x4036_9086_b302_d27d 0x4032_a032_10a6_b3da 0x4032_f9de_202b_83cf ∷ fall 0x4033_b819_ae43_412c 0x4041_498d_3e69_25fd 0x4052_2e2f_5e42_2e55 ∷ []) 1 523 (fall 0x4031_c695_129e_28a6 0x4045_4f30_4819_1073 0x405e_15e3_4976_a507)
    -- with a frontal area that is rounded down, from 30 m
    -- it ends with 6.04716 m/s forward, 17.8542 m/s down, 30.0393 m fallen
    ∷ landed 8001 60000 1500 3000 20000 (fall 0x4020_709b_ed55_b2f5 0x402d_452a_b901_d022 0x4030_48bd_1965_dd9d ∷ []) 1 284 (fall 0x4018_304b_7207_3749 0x4031_daaf_0da3_60b2 0x403e_0a0c_9e54_174d)
    -- light and wide: drag takes so much of the speeds in each step that its last bits show
    -- it ends with 0.074588 m/s forward, 0.418507 m/s down, 0.0218598 m fallen
    ∷ landed 23336 143 164 2 20000 [] 1 8 (fall 0x3fb3_1832_9d53_a4cb 0x3fda_c8d2_4a2d_5e80 0x3f96_626b_51ac_690c)
    -- it ends with 0.0170728 m/s forward, 0.441156 m/s down, 0.0513438 m fallen
    ∷ landed 19486 118 69 5 20000 [] 1 15 (fall 0x3f91_7b8b_8409_555c 0x3fdc_3be7_a552_0cf9 0x3faa_49ba_6eec_c72a)
    -- it ends with 0.0152668 m/s forward, 0.543722 m/s down, 0.0902334 m fallen
    ∷ landed 13830 109 182 9 20000 [] 1 21 (fall 0x3f8f_4439_c489_ac58 0x3fe1_662c_8cda_4356 0x3fb7_198a_0bc5_bbaf)
    -- in the last step five rounds would find another speed than six, and the end state shows it
    -- it ends with 0.593171 m/s forward, 0.75169 m/s down, 0.0465232 m fallen
    ∷ landed 20690 836 157 4 20000 [] 0 11 (fall 0x3fe2_fb40_c68d_23ff 0x3fe8_0dd8_6429_f152 0x3fa7_d1e3_f5b4_4cbf)
    -- the last height that isn't above 60 degrees, and the first that is
    -- it ends with 1.95606 m/s forward, 3.29537 m/s down, 0.563073 m fallen
    ∷ landed 1000 2000 200 56 20000 [] 0 34 (fall 0x3fff_4c05_2817_8fc7 0x400a_5cec_3409_5bf0 0x3fe2_04b2_3ff3_3573)
    -- it ends with 1.95422 m/s forward, 3.39038 m/s down, 0.596502 m fallen
    ∷ landed 1000 2000 200 57 20000 [] 1 35 (fall 0x3fff_447f_6e10_6a07 0x400b_1f7e_b886_c6e3 0x3fe3_168b_6da4_2be8)
    -- the downward speed squared is exactly 3 × the horizontal speed squared
    -- it ends with 4.6372 m/s forward, 8.03186 m/s down, 3.29519 m fallen
    ∷ landed 9167 3228084 465 322 20000 [] 0 82 (fall 0x4012_8c7c_ea23_22d7 0x4020_104f_aa4b_424b 0x400a_5c8e_132d_aba0)
    -- the distance is exactly the height
    -- it ends with 1.08991 m/s forward, 5.68952 m/s down, 1.65 m fallen
    ∷ landed 4762 13427226 109 165 20000 [] 1 58 (fall 0x3ff1_7049_6ec8_4f2a 0x4016_c211_2fe3_a48e 0x3ffa_6666_6666_6666)
    -- cruise speed 0: both speeds are 0 at first
    -- it ends with 0 m/s forward, 0.490486 m/s down, 0.0122623 m fallen
    ∷ landed 1000 10000 0 1 20000 [] 1 5 (fall 0x0000_0000_0000_0000 0x3fdf_641e_c71d_df0c 0x3f89_1cfe_bcec_8ffe)
    -- it ends with 0 m/s forward, 0.200102 m/s down, 0.0517077 m fallen
    ∷ landed 40000 50 0 5 20000 [] 1 27 (fall 0x0000_0000_0000_0000 0x3fc9_9cf1_5cb6_54c7 0x3faa_796f_cd81_e0d0)
    -- slowing × step is the cruise speed but for rounding: the horizontal speed is 0, above 0, and negative, before 18
    -- it ends with 0 m/s forward, 0.489347 m/s down, 0.012249 m fallen
    ∷ landed 1100 147 25000 1 20000 [] 1 5 (fall 0x0000_0000_0000_0000 0x3fdf_5177_a0a9_5372 0x3f89_1606_d099_572b)
    -- it ends with 5.66579e-14 m/s forward, 0.489539 m/s down, 0.0122513 m fallen
    ∷ landed 2000 441 30000 1 20000 [] 1 5 (fall 0x3d2f_e542_a179_799a 0x3fdf_549c_17f2_8593 0x3f89_1733_83ef_5fdc)
    ∷ refused 1000 98 20000 1 1 19
    -- negative by far, with the least height and budget and with the greatest
    ∷ refused 40000 50 40000 1 1 19
    ∷ refused 40000 50 40000 50000 20000 19
    -- the whole budget is one step
    ∷ refused 1000 50 100 1 1 18
    -- the other ends of the ranges
    -- it ends with 0 m/s forward, 0.487684 m/s down, 0.0122296 m fallen
    ∷ landed 1000 50 0 1 20000 [] 1 5 (fall 0x0000_0000_0000_0000 0x3fdf_3636_540a_25b2 0x3f89_0bd3_f888_d909)
    -- it ends with 396.111 m/s forward, 0.488592 m/s down, 0.0122338 m fallen
    ∷ landed 40000 25000000 40000 1 20000 [] 0 5 (fall 0x4078_c1c4_b34e_5de6 0x3fdf_4518_4bc2_c4ae 0x3f89_0e0c_8347_3a49)
    -- refused 1, 2, 3, 16 and 17: the first that holds, in this order; 17 before 18 and 19
    ∷ refused 49 49 40001 0 0 1
    ∷ refused 100001 50 0 1 1 1
    ∷ refused 999 49 40001 0 0 2
    ∷ refused 1000 25000001 0 1 1 2
    ∷ refused 40001 50 40001 50001 20001 3
    ∷ refused 1000 50 40001 1 1 3
    ∷ refused 999 50 40000 0 20001 16
    ∷ refused 40001 50 0 1 1 16
    ∷ refused 1000 50 40000 0 1 17
    ∷ refused 1000 50 100 50001 1 17
    ∷ refused 1000 50 100 1 0 17
    ∷ refused 1000 50 100 1 20001 17
    ∷ []
