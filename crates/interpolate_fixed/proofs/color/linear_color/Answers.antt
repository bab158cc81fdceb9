use Rattle.std.proofs.Common.{pos}
use Rattle.interpolate_fixed.proofs.color.linear_color.Goals as goal

-- each component lies where its ends do
pub returns-clause-range : goal.returns-clause-range
returns-clause-range c = λ in_a in_b.
    let red = c.component.ensures.between (pos 0) (pos 255000000) in_a.red_from in_a.red_to in_b.red_from in_b.red_to in
    let green = c.component-2.ensures.between (pos 0) (pos 255000000) in_a.green_from in_a.green_to in_b.green_from in_b.green_to in
    let blue = c.component-3.ensures.between (pos 0) (pos 255000000) in_a.blue_from in_a.blue_to in_b.blue_from in_b.blue_to in
    let opacity = c.component-4.ensures.between (pos 0) (pos 1000000) in_a.opacity_from in_a.opacity_to in_b.opacity_from in_b.opacity_to in
    record {
      red_from = red.0;
      red_to = red.1;
      green_from = green.0;
      green_to = green.1;
      blue_from = blue.0;
      blue_to = blue.1;
      opacity_from = opacity.0;
      opacity_to = opacity.1;
    }
