use Rattle.order_encoding.proofs.Composed.{shown-as, some-as}
use Rattle.order_encoding.proofs.laws.each_encoding_says_fits.Goals as goal

pub returns : goal.returns
returns c =
    let says = c.clauses_say_fits.ensures in
    record {
      shown = λ e g table k l v t w a. shown-as e g table k l (λ v s. says.all g table k v t w s) (λ b i v s. says.shown g table b k l v t w i s) a v;
      some = λ e g table k l ls t w a fit. some-as e g table k l ls fit (λ f. says.each g table k ls t w f) (λ b i f. says.some g table b k l ls t w i f) a;
      each = says.each;
    }
