mod TheSame
mod Counted
mod Improving
