mod Fitting
mod Standing
